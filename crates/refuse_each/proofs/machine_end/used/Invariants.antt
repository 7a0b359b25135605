use Rattle.cpu_threads.specs.Ends.{AreOf}
use Rattle.refuse_each.proofs.machine_end.used.Given as goal

abbrev pub invariant-loop-cpu : goal.invariant-loop-cpu
invariant-loop-cpu l = AreOf l.machine.table l.passes.items
