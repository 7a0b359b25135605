use Rattle.std.proofs.Common.{◌≡◌, ◌++◌, All, map}
use Rattle.std.specs.Vec.Iter.{into_iter_items}
use Rattle.part_table.specs.Passes.{IsPassOf}
use Rattle.trace_race.specs.Workers.{IsReady}
use Rattle.trace_race.proofs.making.all_workers.Given as goal

abbrev pub invariant-loop-pass : goal.invariant-loop-pass
invariant-loop-pass l =
    record {
      next : goal.iterator-loop-pass.can_next l.pass-iterator;
      finite : goal.iterator-loop-pass.is_finite l.pass-iterator;
      rest : All (IsPassOf l.machine.table) (into_iter_items l.pass-iterator);
      ready : All (IsReady l.machine.table l.steps) l.workers.items;
      all : map (λ w. w.pass) l.workers.items ++ into_iter_items l.pass-iterator ≡ l.fn.passes.items;
    }
