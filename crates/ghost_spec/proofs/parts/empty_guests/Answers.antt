use Rattle.std.proofs.Common.{◌≡◌}
use Rattle.reference_model.specs.model.State.{no_guest}
use Rattle.ghost_spec.specs.declared.parts.GhostGuest.{GhostGuest}
use Rattle.ghost_spec.specs.Kept.{IsKeptGuest}
use Rattle.ghost_spec.specs.States.{guest_in}
use Rattle.ghost_trees.proofs.Pushed.{all_pushed, count_pushed}
use Rattle.ghost_spec.proofs.parts.empty_guests.Goals as goal

pub loop-preserved : goal.loop-preserved
loop-preserved c = record {
  count =
      count_pushed c.loop.guests.items c.push.new.self.items c.none.result c.loop.counter
      c.in_ok-push.ensures.items c.loop.invariant.count;
  empty =
      all_pushed
      (λ (g : GhostGuest). guest_in g ≡ no_guest) c.loop.guests.items c.push.new.self.items c.none.result
      c.in_ok-push.ensures.items c.loop.invariant.empty c.none.ensures.none;
  kept =
      all_pushed IsKeptGuest c.loop.guests.items c.push.new.self.items c.none.result c.in_ok-push.ensures.items
      c.loop.invariant.kept c.none.ensures.kept;
}
