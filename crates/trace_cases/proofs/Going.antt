-- Carrying lines out one after another, as an audit does.
use Rattle.std.proofs.Common.{◌≡◌, refl, ℕ, ◌+◌, ◌<◌, ◌≤◌, sym, ap, subst, arith, List, [], ◌∷◌, ◌++◌, length, drop, map, get_or, append_assoc, Option, None, Ok, Err, ◌∙◌}
use Rattle.std.proofs.lemmas.List.{append-nil, drop-map}
use Rattle.ghost_judge.specs.declared.disagreement.Disagreement.{Disagreement}
use Rattle.trace_text.specs.declared.fault.Fault.{Fault}
use Rattle.trace_text.specs.declared.fault.Fault.TheVariants as faults
use Rattle.trace_text.specs.declared.report.ReportLine.{ReportLine}
use Rattle.trace_text.specs.declared.report.ReportLine.TheVariants as report
use Rattle.trace_text.specs.declared.session.Stop.TheVariants as stops
use Rattle.trace_text.specs.Reports.{IsPlayed}
use Rattle.trace_text.specs.Session.{Answer}
use Rattle.trace_audit.specs.Audited.{Audited, IsAudited, RunsLine, nothing_audited}
use Rattle.trace_check.proofs.Going.{cut, some_first}
use Rattle.trace_check.proofs.Steps.{past_end}
use Rattle.trace_cases.specs.Audits.{Runs}

module _ {A : Type 0} where
  -- a line within the limit
  played : (number : ℕ) (line : List ℕ) (old new : Audited A) (answer : Answer)
      → number ≤ 1048576
      → RunsLine number line old answer new
      → IsPlayed (RunsLine {A = A}) number line old answer new
  played number line old new answer few does =
      record { runs = λ _. does; past = λ many. absurd (omega (arith, few, many)) }

  -- what is told of the lines so far goes before what is told of those from a number on
  abbrev pub Goes : List (List ℕ) → ℕ → Audited A → List (List ℕ) → List (List ReportLine) → Type 0
  Goes all number old rest told =
      (more : List (List ReportLine)) (found : Option Disagreement)
      → Runs number old rest more found
      → Runs {A = A} 1 nothing_audited all (told ++ more) found

  module _ (all : List (List ℕ)) (number : ℕ) (old : Audited A) (told : List (List ReportLine)) where
    -- a line that reports
    goes_next : (new : Audited A) (line : List ℕ) (rest : List (List ℕ)) (reported : List ReportLine)
        → number ≤ 1048576
        → RunsLine number line old (Ok reported) new
        → Goes all number old (line ∷ rest) told → Goes all (number + 1) new rest (told ++ reported ∷ [])
    goes_next new line rest reported few does goes more found runs =
        subst (λ ts. Runs {A = A} 1 nothing_audited all ts found) (sym (append_assoc told (reported ∷ []) more))
        (goes (reported ∷ more) found
        (Ok reported, new, played number line old new (Ok reported) few does, (more, refl, runs)))

    -- a line with a fault
    goes_fault : (new : Audited A) (line : List ℕ) (rest : List (List ℕ)) (fault : Fault)
        → number ≤ 1048576
        → RunsLine number line old (Err (stops.Fault fault)) new
        → Goes all number old (line ∷ rest) told
        → Runs {A = A} 1 nothing_audited all (told ++ (report.Fault number fault ∷ []) ∷ []) None
    goes_fault new line rest fault few does goes =
        goes ((report.Fault number fault ∷ []) ∷ []) None
        (Err (stops.Fault fault), new, played number line old new (Err (stops.Fault fault)) few does, (refl, refl))

    -- the line past the last
    goes_past : (line : List ℕ) (rest : List (List ℕ)) → 1048576 < number → Goes all number old (line ∷ rest) told
        → Runs {A = A} 1 nothing_audited all (told ++ (report.Fault number faults.Lines ∷ []) ∷ []) None
    goes_past line rest many goes =
        goes ((report.Fault number faults.Lines ∷ []) ∷ []) None (
          Err (stops.Fault faults.Lines),
          old,
          record { runs = λ few. absurd (omega (arith, few, many)); past = λ _. (refl, refl) },
          (refl, refl),
        )

    -- no line is left
    goes_end : (rest : List (List ℕ)) (found : Option Disagreement)
        → rest ≡ []
        → IsAudited old found
        → Goes all number old rest told
        → Runs {A = A} 1 nothing_audited all told found
    goes_end rest found none is goes =
        subst (λ ts. Runs {A = A} 1 nothing_audited all ts found) (append-nil told)
        (goes [] found (subst (λ ls. Runs {A = A} number old ls [] found) (sym none) (refl, is)))

  -- the same of lines as code has them
  module _ {X : Type 0} (now : X → List ℕ) (xs : List X) (k : ℕ) (old : Audited A) (told : List (List ReportLine)) where
    pub step_next : (d : X) (new : Audited A) (reported : List ReportLine)
        → k < length xs
        → k + 1 ≤ 1048576
        → RunsLine (k + 1) (now (get_or xs k d)) old (Ok reported) new
        → Goes (map now xs) (k + 1) old (map now (drop k xs)) told
        → Goes (map now xs) (k + 1 + 1) new (map now (drop (k + 1) xs)) (told ++ reported ∷ [])
    step_next d new reported less few does goes =
        goes_next (map now xs) (k + 1) old told new (now (get_or xs k d)) (map now (drop (k + 1) xs)) reported few does
        (subst (λ ls. Goes (map now xs) (k + 1) old ls told) (cut now xs k (k + 1) d less (omega arith)) goes)

    pub step_fault : (d : X) (new : Audited A) (fault : Fault)
        → k < length xs
        → k + 1 ≤ 1048576
        → RunsLine (k + 1) (now (get_or xs k d)) old (Err (stops.Fault fault)) new
        → Goes (map now xs) (k + 1) old (map now (drop k xs)) told
        → Runs {A = A} 1 nothing_audited (map now xs) (told ++ (report.Fault (k + 1) fault ∷ []) ∷ []) None
    step_fault d new fault less few does goes =
        goes_fault (map now xs) (k + 1) old told new (now (get_or xs k d)) (map now (drop (k + 1) xs)) fault few does
        (subst (λ ls. Goes (map now xs) (k + 1) old ls told) (cut now xs k (k + 1) d less (omega arith)) goes)

    pub step_past : k < length xs → 1048576 < k + 1 → Goes (map now xs) (k + 1) old (map now (drop k xs)) told
        → Runs {A = A} 1 nothing_audited (map now xs) (told ++ (report.Fault (k + 1) faults.Lines ∷ []) ∷ []) None
    step_past less many goes =
        let first = some_first now xs k (k + 1) less (omega arith) in
        goes_past (map now xs) (k + 1) old told first.0 (map now (drop (k + 1) xs)) many
        (subst (λ ls. Goes (map now xs) (k + 1) old ls told) first.1 goes)

    pub step_end : (found : Option Disagreement)
        → length xs ≤ k
        → IsAudited old found
        → Goes (map now xs) (k + 1) old (map now (drop k xs)) told
        → Runs {A = A} 1 nothing_audited (map now xs) told found
    step_end found past is goes =
        goes_end (map now xs) (k + 1) old told (map now (drop k xs)) found
        (sym (drop-map now k xs) ∙ past_end now xs k past) is goes

  -- no more is told than there are lines
  pub runs_few : (number : ℕ) (old : Audited A) (lines : List (List ℕ)) (told : List (List ReportLine))
      (found : Option Disagreement)
      → Runs number old lines told found
      → length told ≤ length lines
  runs_few number old [] told found runs = omega (arith, ap length runs.0)
  runs_few number old (line ∷ rest) told found (Err (stops.Fault fault), new, at, tells) =
      omega (arith, ap length tells.0)
  runs_few number old (line ∷ rest) told found (Err stops.NoMemory, new, at, tells) = absurd tells
  runs_few number old (line ∷ rest) told found (Ok reported, new, at, (more, is, runs)) = let few =
      runs_few (number + 1) new rest more found runs in
      omega (arith, ap length is, few)
