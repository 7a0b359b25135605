use Rattle.part_table.specs.Answered.{StoresNothing}
use Rattle.part_table.specs.Passes.{IsPassOf}
use Rattle.cpu_threads.specs.Machines.{MeetsOnly}
use Rattle.cpu_threads.proofs.machine.Machine.call_gated.Given as goal

abbrev pub invariant-loop : goal.invariant-loop
invariant-loop g l =
    IsPassOf l.self.table l.pass
    × StoresNothing (MeetsOnly l.step l.initial.pass.knows) l.initial.pass.knows l.pass.knows
