use Rattle.std.proofs.Common.{take}
use Rattle.race_outcomes.specs.Layers.{AreOutcomes}
use Rattle.race_outcomes.proofs.finding.distinct.Given as goal

abbrev pub invariant-loop-i : goal.invariant-loop-i
invariant-loop-i l = AreOutcomes (take l.i l.nodes) l.found.items
