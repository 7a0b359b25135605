use Rattle.std.proofs.Common.{◌≡◌, ◌++◌, map}
use Rattle.std.specs.Vec.Iter.{into_iter_items}
use Rattle.trace_race.proofs.making.passes_of.Given as goal

abbrev pub invariant-loop-one : goal.invariant-loop-one
invariant-loop-one l =
    record {
      next : goal.iterator-loop-one.can_next l.one-iterator;
      finite : goal.iterator-loop-one.is_finite l.one-iterator;
      all : l.passes.items ++ map (λ d. d.pass) (into_iter_items l.one-iterator) ≡ map (λ d. d.pass) l.fn.done.items;
    }
