use Rattle.std.proofs.Common.{◌≡◌, ◌+◌, ◌-◌, length, vec_len, arith}
use Rattle.std.proofs.lemmas.Grind.{common_steps}
use Rattle.hyp_pool.proofs.Views.{lowest_first-drop, lowest_first-take}
use Rattle.hyp_pool.proofs.Pools.{pool_take, least_moved}
use Rattle.hyp_pool.proofs.Pool.take_many.Goals as goal

-- the frames that stay and those that are taken are all
all_frames : (c : goal.After-move_last)
    → vec_len c.self.inside.frames - c.args.n + c.args.n ≡ length c.self.inside.frames.items
all_frames c = omega (arith, c.self.inside.frames.ok, c.if-n-free.false, c.len-free.ensures)

pub invariant_of-self : goal.invariant_of-self
invariant_of-self c =
    rw c.move_last.ensures.left (
      pool_take (vec_len c.self.inside.frames - c.args.n) c.self.inside.room c.self.inside.frames.items
          (omega (arith, all_frames c)) c.self.invariant.0,
      omega (arith, c.self.invariant.1, c.move_last.ensures.capacity),
    )

pub returns-clause-pool : goal.returns-clause-pool
returns-clause-pool c = (invariant_of-self c).0

pub returns-clause-taken : goal.returns-clause-taken
returns-clause-taken c =
    let k = vec_len c.self.inside.frames - c.args.n in
    record {
      frames =
          rw (c.move_last.ensures.moved, ← c.self.view_is)
          (lowest_first-drop k c.args.n c.self.inside.frames.items (all_frames c));
      left =
          rw (c.move_last.ensures.left, ← c.self.view_is)
          (lowest_first-take k c.args.n c.self.inside.frames.items (all_frames c));
      least =
          rw (c.move_last.ensures.moved, c.move_last.ensures.left)
          (least_moved k c.args.n c.self.inside.frames.items (all_frames c) c.self.invariant.0.rising);
      count = grind (arith, common_steps);
      enough = grind (arith, common_steps);
    }

pub returns-then-n-free-clause-no_pool : goal.returns-then-n-free-clause-no_pool
returns-then-n-free-clause-no_pool c = grind (arith, common_steps)
