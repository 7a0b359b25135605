-- What the lines of a trace report when they are carried out (profile).
use Rattle.std.specs.Prelude.{◌≡◌, ℕ, ◌+◌, List, [], ◌∷◌, Ok, Err}
use Rattle.trace_text.specs.declared.report.ReportLine.{ReportLine}
use Rattle.trace_text.specs.declared.report.ReportLine.TheVariants as report
use Rattle.trace_text.specs.declared.session.Stop.TheVariants as stops
use Rattle.trace_text.specs.Oracles.{agreed}
use Rattle.trace_text.specs.Replay.{IsPlayed}
use Rattle.trace_text.specs.Session.{Answer, Standing}

-- the report from a line on that answers so: its own, and then that of the lines after it. A fault
-- comes last
abbrev pub Tells : ℕ → Answer → (List (List ReportLine) → Type 0) → List (List ReportLine) → Type 0
Tells number (Err (stops.Fault fault)) follows told = told ≡ (report.Fault number fault ∷ []) ∷ []
Tells number (Err stops.NoMemory) follows told = ⊥
Tells number (Ok reported) follows told =
    (more : List (List ReportLine)) × (told ≡ reported ∷ more) × follows more

-- the lines of a trace, from a number on, are carried out as a replay does: what each reports, up
-- to the first that has a fault
abbrev pub Runs : ℕ → Standing → List (List ℕ) → List (List ReportLine) → Type 0
Runs number old [] told = told ≡ []
Runs number old (line ∷ rest) told =
    (answer : Answer)
    × (new : Standing)
    × IsPlayed agreed number line old answer new
    × Tells number answer (λ more. Runs (number + 1) new rest more) told
