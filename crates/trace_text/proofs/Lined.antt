-- Lines of a report that are written one after another.
use Rattle.std.proofs.Common.{◌≡◌, ℕ, zero, suc, ◌+◌, refl, sym, subst, ap, ◌∙◌, arith, List, [], ◌∷◌, ◌++◌, length, map, take, Option}
use Rattle.std.proofs.lemmas.List.{append-nil}
use Rattle.std.specs.Io.KnownBytes.{Appends}
use Rattle.page_state.specs.declared.entry.Run.{Run}
use Rattle.trace_lines.specs.declared.response.Response.TheVariants as responses
use Rattle.trace_text.specs.declared.report.ReportLine.{ReportLine}
use Rattle.trace_text.specs.declared.report.ReportLine.TheVariants as report
use Rattle.trace_text.specs.Played.{WritesFront}
use Rattle.trace_text.specs.Texts.{text_of, text_of_report}
use Rattle.trace_reader.proofs.KnownBytes.{appends_both}
use Rattle.trace_text.proofs.ReplayLemmas.{appends_lines, text_of_report-append}

-- the lines of runs
abbrev pub shown : List Run → List ReportLine
shown runs = map report.Response (map responses.Run runs)

-- what writes the rest of some lines, all of it or a front, has written that of all of them
pub record Ahead (before now : Option (List ℕ)) (all rest : List ReportLine) : Type 0 where
  pub whole : (last : Option (List ℕ))
      → Appends now last (text_of_report rest)
      → Appends before last (text_of_report all)
  pub front : (last : Option (List ℕ)) → WritesFront rest now last → WritesFront all before last

pub ahead_none : (before : Option (List ℕ)) (all : List ReportLine) → Ahead before before all all
ahead_none before all = record { whole = λ last h. h; front = λ last h. h }

take_past : (xs ys : List ℕ) (n : ℕ) → take (length xs + n) (xs ++ ys) ≡ xs ++ take n ys
take_past [] ys n = ap (λ k. take k ys) (let z : 0 + n ≡ n = omega arith in z)
take_past (x ∷ xs) ys n =
    ap (λ k. take k (x ∷ (xs ++ ys))) (let z : suc (length xs) + n ≡ suc (length xs + n) = omega arith in z)
    ∙ ap (λ ls. x ∷ ls) (take_past xs ys n)

-- one line more
pub ahead_one : (before now next : Option (List ℕ)) (all rest : List ReportLine) (line : ReportLine)
    → Ahead before now all (line ∷ rest)
    → Appends now next (text_of_report (line ∷ []))
    → Ahead before next all rest
ahead_one before now next all rest line ahead written = record {
  whole = λ last h. ahead.whole last (appends_lines now next last (line ∷ []) rest written h);
  front = λ last h.
      let bytes : List ℕ = text_of line ++ 10 ∷ [] in
      ahead.front last (
        length bytes + h.0,
        subst (Appends now last) (sym (take_past bytes (text_of_report rest) h.0))
            (appends_both now next last bytes (take h.0 (text_of_report rest))
            (subst (Appends now next) (append-nil bytes) written) h.1),
      );
}

-- a front of what stands in front
front_in : (n : ℕ) (xs ys : List ℕ) → (k : ℕ) × (take k (xs ++ ys) ≡ take n xs)
front_in zero xs ys = (0, refl)
front_in (suc n) [] ys = (0, refl)
front_in (suc n) (x ∷ xs) ys = let r = front_in n xs ys in (suc r.0, ap (λ ls. x ∷ ls) r.1)

-- a front of the next line
pub front_ahead : (before now last : Option (List ℕ)) (all rest : List ReportLine) (line : ReportLine)
    → Ahead before now all (line ∷ rest)
    → WritesFront (line ∷ []) now last
    → WritesFront all before last
front_ahead before now last all rest line ahead written =
    let bytes : List ℕ = text_of line ++ 10 ∷ [] in
    let k = front_in written.0 bytes (text_of_report rest) in
    ahead.front last (
      k.0,
      subst (Appends now last) (sym k.1)
          (subst (λ ls. Appends now last (take written.0 ls)) (append-nil bytes) written.1),
    )

-- a front of some lines is one of these and more
pub front_first : (old new : Option (List ℕ)) (xs ys : List ReportLine)
    → WritesFront xs old new
    → WritesFront (xs ++ ys) old new
front_first old new xs ys h =
    let k = front_in h.0 (text_of_report xs) (text_of_report ys) in
    (k.0, subst (Appends old new) (sym (ap (take k.0) (text_of_report-append xs ys) ∙ k.1)) h.1)

-- and so are all of them and a front of what is behind
pub front_behind : (old mid new : Option (List ℕ)) (xs ys : List ReportLine)
    → Appends old mid (text_of_report xs)
    → WritesFront ys mid new
    → WritesFront (xs ++ ys) old new
front_behind old mid new xs ys written h = (
  length (text_of_report xs) + h.0,
  subst (Appends old new)
      (sym
      (ap (take (length (text_of_report xs) + h.0)) (text_of_report-append xs ys)
      ∙ take_past (text_of_report xs) (text_of_report ys) h.0))
      (appends_both old mid new (text_of_report xs) (take h.0 (text_of_report ys)) written h.1),
)
