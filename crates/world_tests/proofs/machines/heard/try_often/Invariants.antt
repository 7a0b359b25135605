use Rattle.part_table.specs.Passes.{IsPassOf}
use Rattle.world_tests.proofs.machines.heard.try_often.Given as goal

abbrev pub invariant-loop : goal.invariant-loop
invariant-loop l = IsPassOf l.machine.table l.pass
