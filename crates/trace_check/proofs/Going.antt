-- Carrying lines out one after another.
use Rattle.std.proofs.Common.{◌≡◌, refl, ℕ, zero, suc, ◌+◌, ◌<◌, ◌≤◌, sym, ◌∙◌, ap, subst, arith, List, [], ◌∷◌, ◌++◌, length, drop, map, get_or, append_assoc, Ok, Err}
use Rattle.std.proofs.lemmas.List.{append-nil, drop-map, map-append}
use Rattle.trace_text.specs.declared.fault.Fault.{Fault}
use Rattle.trace_text.specs.declared.fault.Fault.TheVariants as faults
use Rattle.trace_text.specs.declared.report.ReportLine.{ReportLine}
use Rattle.trace_text.specs.declared.report.ReportLine.TheVariants as report
use Rattle.trace_text.specs.declared.session.Stop.TheVariants as stops
use Rattle.trace_text.specs.Oracles.{agreed}
use Rattle.trace_text.specs.Replay.{IsPlayed}
use Rattle.trace_text.specs.Session.{Answer, RunsLine, Standing, at_start}
use Rattle.trace_check.specs.Runs.{Runs}
use Rattle.trace_check.proofs.Steps.{past_end}

-- a line within the limit
played : (number : ℕ) (line : List ℕ) (old new : Standing) (answer : Answer)
    → number ≤ 1048576
    → RunsLine agreed number line old answer new
    → IsPlayed agreed number line old answer new
played number line old new answer few does =
    record { runs = λ _. does; past = λ many. absurd (omega (arith, few, many)) }

-- what is told of the lines so far goes before what is told of those from a number on
abbrev pub Goes : List (List ℕ) → ℕ → Standing → List (List ℕ) → List (List ReportLine) → Type 0
Goes all number old rest told =
    (more : List (List ReportLine)) → Runs number old rest more → Runs 1 at_start all (told ++ more)

module _ (all : List (List ℕ)) (number : ℕ) (old : Standing) (told : List (List ReportLine)) where
  -- a line that reports
  pub goes_next : (new : Standing) (line : List ℕ) (rest : List (List ℕ)) (reported : List ReportLine)
      → number ≤ 1048576
      → RunsLine agreed number line old (Ok reported) new
      → Goes all number old (line ∷ rest) told → Goes all (number + 1) new rest (told ++ reported ∷ [])
  goes_next new line rest reported few does goes more runs =
      subst (Runs 1 at_start all) (sym (append_assoc told (reported ∷ []) more))
      (goes (reported ∷ more) (Ok reported, new, played number line old new (Ok reported) few does, (more, refl, runs)))

  -- a line with a fault
  pub goes_fault : (new : Standing) (line : List ℕ) (rest : List (List ℕ)) (fault : Fault)
      → number ≤ 1048576
      → RunsLine agreed number line old (Err (stops.Fault fault)) new
      → Goes all number old (line ∷ rest) told → Runs 1 at_start all (told ++ (report.Fault number fault ∷ []) ∷ [])
  goes_fault new line rest fault few does goes =
      goes ((report.Fault number fault ∷ []) ∷ [])
      (Err (stops.Fault fault), new, played number line old new (Err (stops.Fault fault)) few does, refl)

  -- the line past the last
  pub goes_past : (line : List ℕ) (rest : List (List ℕ))
      → 1048576 < number
      → Goes all number old (line ∷ rest) told
      → Runs 1 at_start all (told ++ (report.Fault number faults.Lines ∷ []) ∷ [])
  goes_past line rest many goes =
      goes ((report.Fault number faults.Lines ∷ []) ∷ []) (
        Err (stops.Fault faults.Lines),
        old,
        record { runs = λ few. absurd (omega (arith, few, many)); past = λ _. (refl, refl) },
        refl,
      )

  -- no line is left
  pub goes_end : (rest : List (List ℕ)) → rest ≡ [] → Goes all number old rest told → Runs 1 at_start all told
  goes_end rest none goes =
      subst (Runs 1 at_start all) (append-nil told) (goes [] (subst (λ ls. Runs number old ls []) (sym none) refl))

-- lines from a place on
pub cut : {X Y : Type 0} (now : X → Y) (xs : List X) (k j : ℕ) (d : X)
    → k < length xs
    → j ≡ suc k
    → map now (drop k xs) ≡ now (get_or xs k d) ∷ map now (drop j xs)
cut now [] k j d less e = absurd (omega (arith, less))
cut now (x ∷ xs) zero j d less e = rw e refl
cut now (x ∷ xs) (suc k) j d less e = rw e (cut now xs k (suc k) d (omega (arith, less)) refl)

pub some_first : {X Y : Type 0} (now : X → Y) (xs : List X) (k j : ℕ)
    → k < length xs
    → j ≡ suc k
    → (first : Y) × (map now (drop k xs) ≡ first ∷ map now (drop j xs))
some_first now [] k j less e = absurd (omega (arith, less))
some_first now (x ∷ xs) zero j less e = (now x, rw e refl)
some_first now (x ∷ xs) (suc k) j less e = rw e (some_first now xs k (suc k) (omega (arith, less)) refl)

-- the same of lines as code has them
module _ {X : Type 0} (now : X → List ℕ) (xs : List X) (k : ℕ) (old : Standing) (told : List (List ReportLine)) where
  pub step_next : (d : X) (new : Standing) (reported : List ReportLine)
      → k < length xs
      → k + 1 ≤ 1048576
      → RunsLine agreed (k + 1) (now (get_or xs k d)) old (Ok reported) new
      → Goes (map now xs) (k + 1) old (map now (drop k xs)) told
      → Goes (map now xs) (k + 1 + 1) new (map now (drop (k + 1) xs)) (told ++ reported ∷ [])
  step_next d new reported less few does goes =
      goes_next (map now xs) (k + 1) old told new (now (get_or xs k d)) (map now (drop (k + 1) xs)) reported few does
      (subst (λ ls. Goes (map now xs) (k + 1) old ls told) (cut now xs k (k + 1) d less (omega arith)) goes)

  pub step_fault : (d : X) (new : Standing) (fault : Fault)
      → k < length xs
      → k + 1 ≤ 1048576
      → RunsLine agreed (k + 1) (now (get_or xs k d)) old (Err (stops.Fault fault)) new
      → Goes (map now xs) (k + 1) old (map now (drop k xs)) told
      → Runs 1 at_start (map now xs) (told ++ (report.Fault (k + 1) fault ∷ []) ∷ [])
  step_fault d new fault less few does goes =
      goes_fault (map now xs) (k + 1) old told new (now (get_or xs k d)) (map now (drop (k + 1) xs)) fault few does
      (subst (λ ls. Goes (map now xs) (k + 1) old ls told) (cut now xs k (k + 1) d less (omega arith)) goes)

  pub step_past : k < length xs
      → 1048576 < k + 1
      → Goes (map now xs) (k + 1) old (map now (drop k xs)) told
      → Runs 1 at_start (map now xs) (told ++ (report.Fault (k + 1) faults.Lines ∷ []) ∷ [])
  step_past less many goes =
      let first = some_first now xs k (k + 1) less (omega arith) in
      goes_past (map now xs) (k + 1) old told first.0 (map now (drop (k + 1) xs)) many
      (subst (λ ls. Goes (map now xs) (k + 1) old ls told) first.1 goes)

  pub step_end : length xs ≤ k
      → Goes (map now xs) (k + 1) old (map now (drop k xs)) told
      → Runs 1 at_start (map now xs) told
  step_end past goes =
      goes_end (map now xs) (k + 1) old told (map now (drop k xs))
      (sym (drop-map now k xs) ∙ past_end now xs k past) goes

-- what is told after one more line
pub told_pushed : {V : Type 0} (of : V → List ReportLine) (vs ws : List V) (v : V) (reported : List ReportLine)
    → ws ≡ vs ++ v ∷ []
    → of v ≡ reported
    → map of ws ≡ map of vs ++ reported ∷ []
told_pushed of vs ws v reported e f = ap (map of) e ∙ map-append of vs (v ∷ []) ∙ ap (λ r. map of vs ++ r ∷ []) f

-- no more is told than there are lines
pub runs_few : (number : ℕ) (old : Standing) (lines : List (List ℕ)) (told : List (List ReportLine))
    → Runs number old lines told
    → length told ≤ length lines
runs_few number old [] told runs = omega (arith, ap length runs)
runs_few number old (line ∷ rest) told (Err (stops.Fault fault), new, at, tells) = omega (arith, ap length tells)
runs_few number old (line ∷ rest) told (Err stops.NoMemory, new, at, tells) = absurd tells
runs_few number old (line ∷ rest) told (Ok reported, new, at, (more, is, runs)) = let few =
    runs_few (number + 1) new rest more runs in
    omega (arith, ap length is, few)
