use Rattle.std.proofs.Common.{◌≡◌, ◌≤◌, drop, length}
use Rattle.std.specs.Vec.{vec_capacity}
use Rattle.part_table.specs.Passes.{IsPassOf}
use Rattle.trace_race.specs.Made.{steps_of}
use Rattle.trace_race.specs.Workers.{HearsEach}
use Rattle.trace_race.proofs.Made.{MakesOwn}
use Rattle.trace_race.proofs.workers.make_all.Given as goal

abbrev pub invariant-loop-i : goal.invariant-loop-i
invariant-loop-i g l =
    record {
      of : IsPassOf l.machine.table l.pass;
      own : l.cpu ≡ l.fn.pass.knows.cpu;
      same : l.pass.knows.cpu ≡ l.fn.pass.knows.cpu;
      room : length (steps_of l.cpu l.steps) ≤ vec_capacity l.replies;
      heard : HearsEach (g.G.Gate.heard_taken l.gate l.fn.pass.knows.cpu) l.fn.pass.knows l.pass.knows;
      makes : MakesOwn l.cpu l.steps (drop l.i l.steps) l.fn.pass.knows l.pass.knows l.replies.items;
    }
