-- The steps that were added, and those ahead.
use Rattle.std.proofs.Common.{◌≡◌, ℕ, ◌+◌, ◌<◌, ◌≤◌, Bool, true, false, List, [], ◌∷◌, ◌++◌, length, get_or, drop, refl, sym, ap, ◌∙◌, subst, Option, Some, None, Ok, Err}
use Rattle.std.proofs.lemmas.List.{append_assoc, append-nil, drop_all, drop_more}
use Rattle.trace_cover.specs.declared.steps.Seen.{Seen}
use Rattle.trace_cover.specs.Steps.{Counts, CountsAll, GoesOn, is_poke, line_read, seen_at}
use Rattle.trace_cover.specs.View.{AddsAll, IsCounted}
use Rattle.trace_faults.specs.Spots.{place_line}
use Rattle.trace_reader.specs.declared.outcome.Outcome.{Outcome}
use Rattle.trace_reader.specs.declared.outcome.Outcome.TheVariants.{Clean, Fault}
use Rattle.trace_text.specs.declared.fault.Fault.{Fault as LineFault}
use Rattle.trace_text.specs.declared.session.Stop.TheVariants as stops
use Rattle.trace_text.specs.Oracles.{agreed}
use Rattle.trace_text.specs.Replay.{IsPlayed}
use Rattle.trace_text.specs.Session.{Standing, at_start}

module _ (name : List ℕ) (ls : List (List ℕ)) (before : List Seen) (said : List ℕ) where
  -- what lies ahead at a place: the steps of the rest go behind those that were added, and are then those of all
  abbrev pub IsAhead : ℕ → Standing → List Seen → Type 0
  IsAhead place now seen =
      (more : List Seen) (rest : List ℕ) (outcome : Outcome)
      → Counts name ls place now (drop place ls) more rest outcome
      → AddsAll name ls before said (seen ++ more) (said ++ rest) outcome

  pub at_first : (now : Standing) (seen : List Seen) → now ≡ at_start → seen ≡ before → IsAhead 0 now seen
  at_first now seen start is more rest outcome counts = record {
    steps = more;
    text = rest;
    counts = subst (λ (s : Standing). Counts name ls 0 s ls more rest outcome) start counts;
    seen = ap (λ xs. xs ++ more) is;
    says = refl;
  }

  -- a trace that ends here
  ends : (place : ℕ) (now : Standing) (seen : List Seen)
      → IsAhead place now seen
      → Counts name ls place now (drop place ls) [] [] Clean
      → AddsAll name ls before said seen said Clean
  ends place now seen ahead counts =
      subst (λ xs. AddsAll name ls before said xs said Clean) (append-nil seen)
      (subst (λ t. AddsAll name ls before said (seen ++ []) t Clean) (append-nil said) (ahead [] [] Clean counts))

  pub ends_clean : (place : ℕ) (now : Standing) (seen : List Seen)
      → length ls ≤ place
      → IsAhead place now seen
      → AddsAll name ls before said seen said Clean
  ends_clean place now seen h ahead =
      ends place now seen ahead
      (subst (λ xs. Counts name ls place now xs [] [] Clean) (sym (drop_all place ls h)) (refl, refl, refl))

  module _ (place : ℕ) (old : Standing) (seen : List Seen) (h : place < length ls)
      (ahead : IsAhead place old seen) where
    -- the lines from here on, the first of which is taken out
    from_here : (more : List Seen) (rest : List ℕ) (outcome : Outcome) (b : Bool)
        → is_poke (line_read old (get_or ls place [])) ≡ b
        → GoesOn name ls b place (get_or ls place []) old
        (λ new. Counts name ls (place + 1) new (drop (place + 1) ls)) more rest outcome
        → Counts name ls place old (drop place ls) more rest outcome
    from_here more rest outcome b is goes =
        subst (λ xs. Counts name ls place old xs more rest outcome) (sym (drop_more ls place [] h))
        (subst
        (λ (c : Bool). GoesOn name ls c place (get_or ls place []) old
        (λ new. Counts name ls (place + 1) new (drop (place + 1) ls)) more rest outcome)
        (sym is) goes)

    pub ends_at_poke : is_poke (line_read old (get_or ls place [])) ≡ true → AddsAll name ls before said seen said Clean
    ends_at_poke is = ends place old seen ahead (from_here [] [] Clean true is (refl, refl, refl))

    pub one_further : (next : Standing) (now : List Seen)
        → is_poke (line_read old (get_or ls place [])) ≡ false
        → IsCounted (place + 1) (get_or ls place []) old seen next now None
        → IsAhead (place + 1) next now
    one_further next now other (reported, played, is) more rest outcome counts =
        let block = seen_at old (get_or ls place []) reported in
        subst (λ xs. AddsAll name ls before said xs (said ++ rest) outcome)
        (sym (append_assoc seen block more) ∙ ap (λ xs. xs ++ more) (sym is))
        (ahead (block ++ more) rest outcome
        (from_here (block ++ more) rest outcome false other (Ok reported, next, played, (more, refl, counts))))

    pub ends_at_fault : (next : Standing) (now : List Seen) (text : List ℕ) (fault : LineFault)
        → is_poke (line_read old (get_or ls place [])) ≡ false
        → IsCounted (place + 1) (get_or ls place []) old seen next now (Some fault)
        → text ≡ said ++ place_line name ls place fault → AddsAll name ls before said now text Fault
    ends_at_fault next now text fault other (played, stays) is =
        subst (λ xs. AddsAll name ls before said xs text Fault) (append-nil seen ∙ sym stays)
        (subst (λ t. AddsAll name ls before said (seen ++ []) t Fault) (sym is)
        (ahead [] (place_line name ls place fault) Fault
        (from_here [] (place_line name ls place fault) Fault false other
        (Err (stops.Fault fault), next, played, (refl, refl, refl)))))
