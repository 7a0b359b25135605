-- What lines report of which all but one report nothing.
use Rattle.std.proofs.Common.{◌≡◌, ◌≢◌, ℕ, ◌+◌, ◌<◌, ◌==◌, sym, ◌∙◌, ap, subst, arith, List, [], ◌∷◌, ◌++◌, length, drop, map, append_assoc, if◌then◌else◌}
use Rattle.std.proofs.lemmas.Bool.{eq-eqb, ne_eqb}
use Rattle.std.proofs.lemmas.List.{drop-map}
use Rattle.trace_text.specs.declared.fault.Fault.{Fault}
use Rattle.trace_text.specs.declared.report.ReportLine.{ReportLine}
use Rattle.trace_text.specs.declared.report.ReportLine.TheVariants as report
use Rattle.trace_check.proofs.Going.{some_first, told_pushed}
use Rattle.trace_cases.specs.Races.{faulted, padded, silences}

module _ {X V : Type 0} (of : V → List ReportLine) (now : X → List ℕ) (xs : List X) (k : ℕ) (less : k < length xs)
    (vs ws : List V) (v : V) (pushed : ws ≡ vs ++ v ∷ []) (all : List (List ReportLine)) where
  abbrev rest : List (List ℕ)
  rest = map now (drop (k + 1) xs)

  -- one more line that reports nothing
  pub silence_next : of v ≡ []
      → map of vs ++ silences (map now (drop k xs)) ≡ all
      → map of ws ++ silences (map now (drop (k + 1) xs)) ≡ all
  silence_next none so =
      let first = some_first now xs k (k + 1) less (omega arith) in
      ap (λ ts. ts ++ silences rest) (told_pushed of vs ws v [] pushed none)
      ∙ append_assoc (map of vs) ([] ∷ []) (silences rest) ∙ subst (λ ls. map of vs ++ silences ls ≡ all) first.1 so

  module _ (at : ℕ) (fault : Fault) (so : map of vs ++ faulted (k + 1) at fault (map now (drop k xs)) ≡ all) where
    -- one more line before the one with the fault
    pub fault_next : k + 1 ≢ at
        → of v ≡ []
        → map of ws ++ faulted (k + 1 + 1) at fault (map now (drop (k + 1) xs)) ≡ all
    fault_next other none =
        let first = some_first now xs k (k + 1) less (omega arith) in
        let cut : map of vs ++ (if (k + 1) == at then (report.Fault at fault ∷ []) ∷ [] else [] ∷ faulted (k + 1 + 1) at fault rest) ≡ all =
        subst (λ ls. map of vs ++ faulted (k + 1) at fault ls ≡ all) first.1 so in
        ap (λ ts. ts ++ faulted (k + 1 + 1) at fault rest) (told_pushed of vs ws v [] pushed none)
        ∙ append_assoc (map of vs) ([] ∷ []) (faulted (k + 1 + 1) at fault rest)
        ∙ subst
        (λ b. map of vs ++ (if b then (report.Fault at fault ∷ []) ∷ [] else [] ∷ faulted (k + 1 + 1) at fault rest)
        ≡ all)
        (ne_eqb (k + 1) at other) cut

    -- the line with the fault
    pub fault_here : k + 1 ≡ at → of v ≡ report.Fault at fault ∷ [] → map of ws ≡ all
    fault_here here one =
        let first = some_first now xs k (k + 1) less (omega arith) in
        let cut : map of vs ++ (if (k + 1) == at then (report.Fault at fault ∷ []) ∷ [] else [] ∷ faulted (k + 1 + 1) at fault rest) ≡ all =
        subst (λ ls. map of vs ++ faulted (k + 1) at fault ls ≡ all) first.1 so in
        told_pushed of vs ws v (report.Fault at fault ∷ []) pushed one
        ∙ subst
        (λ b. map of vs ++ (if b then (report.Fault at fault ∷ []) ∷ [] else [] ∷ faulted (k + 1 + 1) at fault rest)
        ≡ all)
        (eq-eqb (k + 1) at here) cut

-- as many lines report as are carried out in order, and those after them nothing
pub padded_whole : {X : Type 0} (now : X → List ℕ) (xs : List X) (count : ℕ) (told all : List (List ReportLine))
    → length told ≡ count
    → all ≡ told ++ silences (map now (drop count xs))
    → all ≡ padded count (map now xs) told
padded_whole now xs count told all whole is =
    subst (λ b. all ≡ (if b then told ++ silences (drop count (map now xs)) else told))
    (sym (eq-eqb (length told) count whole)) (is ∙ ap (λ ls. told ++ silences ls) (sym (drop-map now count xs)))
