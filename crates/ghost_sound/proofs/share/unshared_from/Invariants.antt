use Rattle.std.proofs.Common.{◌-◌, ◌≤◌}
use Rattle.ghost_sound.specs.inner.Share.{AreShared}
use Rattle.ghost_sound.proofs.share.unshared_from.Given as goal

abbrev pub invariant-loop-at : goal.invariant-loop-at
invariant-loop-at l = record { from : l.first ≤ l.at; shared : AreShared l.state l.first l.at }

abbrev pub decreases-loop-at : goal.decreases-loop-at
decreases-loop-at l = l.end - l.at
