use Rattle.part_table.specs.Passes.{IsPassOf}
use Rattle.world_tests.proofs.machines.judged.make_each.Given as goal

abbrev pub invariant-loop-step : goal.invariant-loop-step
invariant-loop-step l = IsPassOf l.machine.table l.pass
