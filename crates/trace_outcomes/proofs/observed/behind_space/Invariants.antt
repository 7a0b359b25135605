use Rattle.std.proofs.Common.{◌≡◌, drop}
use Rattle.trace_outcomes.specs.Reports.{behind_space}
use Rattle.trace_outcomes.proofs.observed.behind_space.Given as goal

abbrev pub invariant-loop-place : goal.invariant-loop-place
invariant-loop-place l = behind_space (drop l.place l.line) ≡ behind_space l.line
