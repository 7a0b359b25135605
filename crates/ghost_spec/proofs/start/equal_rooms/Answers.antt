use Rattle.std.proofs.Common.{◌≡◌, ℕ, refl}
use Rattle.ghost_trees.proofs.Pushed.{all_pushed, count_pushed}
use Rattle.ghost_spec.proofs.start.equal_rooms.Goals as goal

pub loop-preserved : goal.loop-preserved
loop-preserved c = record {
  count =
      count_pushed c.loop.rooms.items c.push.new.self.items _ c.loop.counter
      c.in_ok-push.ensures.items c.loop.invariant.count;
  rooms =
      all_pushed
      (λ (n : ℕ). n ≡ c.args.room) c.loop.rooms.items c.push.new.self.items _ c.in_ok-push.ensures.items
      c.loop.invariant.rooms refl;
}
