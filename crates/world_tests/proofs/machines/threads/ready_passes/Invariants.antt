use Rattle.std.proofs.Common.{◌≡◌}
use Rattle.cpu_threads.specs.Ends.{AreOf}
use Rattle.world_tests.proofs.machines.threads.ready_passes.Given as goal

abbrev pub invariant-loop-cpu : goal.invariant-loop-cpu
invariant-loop-cpu g l = (l.machine.table ≡ l.initial.machine.table) × AreOf l.machine.table l.passes.items
