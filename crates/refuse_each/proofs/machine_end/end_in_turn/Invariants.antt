use Rattle.cpu_threads.specs.Ends.{AreOf}
use Rattle.refuse_each.proofs.machine_end.end_in_turn.Given as goal

abbrev pub invariant-loop-n : goal.invariant-loop-n
invariant-loop-n l = AreOf l.held.0.table l.held.1.items
