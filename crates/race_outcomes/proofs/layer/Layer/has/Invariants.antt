use Rattle.race_outcomes.proofs.Indexed.{AreLooked}
use Rattle.race_outcomes.proofs.layer.Layer.has.Given as goal

abbrev pub invariant-loop-i : goal.invariant-loop-i
invariant-loop-i l = AreLooked l.self.nodes.items l.those l.node l.i
