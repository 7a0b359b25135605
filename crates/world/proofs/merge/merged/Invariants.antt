use Rattle.std.proofs.Common.{length}
use Rattle.world.specs.inner.Merging.{left, left_by, IsPlaced}
use Rattle.world.proofs.Merging.{IsWhyIllegal}
use Rattle.world.proofs.merge.merged.Given as goal

abbrev pub decreases-loop-call : goal.decreases-loop-call
decreases-loop-call l = left_by (left l.histories l.places) (length l.histories.cpus.items)

abbrev pub invariant-loop-call : goal.invariant-loop-call
invariant-loop-call l =
    record { placed : IsPlaced l.histories l.places; begun : IsWhyIllegal l.histories l.places l.told.items }
