use Rattle.std.proofs.Common.{◌≡◌, ◌++◌, All, List, map}
use Rattle.std.specs.Vec.Iter.{into_iter_items}
use Rattle.part_table.specs.Passes.{Opened}
use Rattle.trace_race.specs.declared.course.Asked.{Asked}
use Rattle.trace_race.specs.Workers.{IsReady}
use Rattle.trace_race.proofs.Threads.{IsTheirs, Joins}
use Rattle.trace_race.proofs.workers.fn.work_at_once.scope.Given as goal

abbrev pub invariant-loop-worker : goal.invariant-loop-worker
invariant-loop-worker g l =
    record {
      next : (goal.iterator-loop-worker g).can_next l.worker-iterator;
      finite : (goal.iterator-loop-worker g).is_finite l.worker-iterator;
      rest : All (IsReady l.machine.table l.steps) (into_iter_items l.worker-iterator);
      threads : map (λ h. h.promise.pass.value) l.threads.items ++ map (λ w. w.pass) (into_iter_items l.worker-iterator)
          ≡ map (λ w. w.pass) (into_iter_items l.initial.worker-iterator);
      theirs : All (IsTheirs l.machine.table l.steps) l.threads.items;
      none : l.all.items ≡ l.initial.all.items;
    }

abbrev pub invariant-loop-thread : goal.invariant-loop-thread
invariant-loop-thread g l =
    record {
      next : (goal.iterator-loop-thread g).can_next l.thread-iterator;
      finite : (goal.iterator-loop-thread g).is_finite l.thread-iterator;
      joins : (t : Opened) (steps : List Asked)
          → All (IsTheirs t steps) (into_iter_items l.initial.thread-iterator)
          → Joins t steps (into_iter_items l.initial.thread-iterator) (into_iter_items l.thread-iterator) l.all.items;
    }
