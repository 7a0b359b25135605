use Rattle.std.proofs.Common.{◌<◌}
use Rattle.race_outcomes.proofs.kept.state_key.Given as goal

abbrev pub invariant-loop-i : goal.invariant-loop-i
invariant-loop-i l = l.key < 4093
