use Rattle.part_table.specs.Passes.{IsPassOf}
use Rattle.refuse_each.proofs.machine_end.make_calls.Given as goal

abbrev pub invariant-loop-step : goal.invariant-loop-step
invariant-loop-step l = IsPassOf l.machine.table l.pass
