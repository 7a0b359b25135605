-- How a race can fail, and how a source and a sink count their failures.
use Rattle.std.specs.Prelude.{◌≡◌, ℕ, Result, Ok, Err}
use Rattle.trace_race.specs.declared.fault.RaceFault.{RaceFault}
use Rattle.trace_race.specs.declared.fault.RaceFault.TheVariants.{Engine, Start}
use Rattle.trace_text.specs.Failures.{CountsReads, CountsWrites, ReportsWrite}

-- as for a replay; if a thread couldn't start, neither has failed
abbrev pub RaceReads : {X : Type 0} → ℕ → ℕ → Result X RaceFault → Type 0
RaceReads before after (Ok x) = after ≡ before
RaceReads {X = X} before after (Err (Engine fault)) = CountsReads {X = X} before after (Err fault)
RaceReads before after (Err Start) = after ≡ before

abbrev pub RaceWrites : {X : Type 0} → ℕ → ℕ → Result X RaceFault → Type 0
RaceWrites before after (Ok x) = after ≡ before
RaceWrites {X = X} before after (Err (Engine fault)) = CountsWrites {X = X} before after (Err fault)
RaceWrites before after (Err Start) = after ≡ before

abbrev pub RaceReports : {X : Type 0} → ℕ → ℕ → Result X RaceFault → Type 0
RaceReports before after (Ok x) = after ≡ before
RaceReports {X = X} before after (Err (Engine fault)) =
    ReportsWrite {X = X} before after (Err fault)
RaceReports before after (Err Start) = after ≡ before
