use Rattle.std.proofs.Common.{◌≡◌, ℕ, ◌<◌, ◌≤◌, length, get_or, true, rules, arith, ltb, ap}
use Rattle.std.specs.Prelude.{insert, Contains}
use Rattle.std.proofs.lemmas.Bool.Decides.{nat_tests}
use Rattle.std.proofs.lemmas.List.Sorted.{IsPartitionPoint-from_clause}
use Rattle.page_state.specs.declared.Frame.{Frame}
use Rattle.page_state.specs.Tables.{given}
use Rattle.hyp_pool.specs.Pools.{lowest_first}
use Rattle.hyp_pool.proofs.Views.{IsPlace, falls, lowest_first-insert}
use Rattle.hyp_pool.proofs.Pools.{pool_given}
use Rattle.hyp_pool.proofs.Pool.give.Goals as goal

above_too : (f a b : ℕ) → b ≤ a → ltb f b ≡ true → ltb f a ≡ true
above_too f a b h t = grind (arith, nat_tests)

-- the frames as they were, seen from the slice
was : (c : goal.After-unwrap) → c.deref.result.now ≡ c.self.inside.frames.items
was c = c.deref.ensures.value

place : (c : goal.After-unwrap) → IsPlace c.partition_point-place.result c.args.frame.0 c.deref.result.now
place c =
    IsPartitionPoint-from_clause
    (λ (g : Frame). ltb c.args.frame.0 g.0) c.deref.result.now c.partition_point-place.result
    c.partition_point-place.ensures.partitioned
    (λ i j d h k t. above_too c.args.frame.0 (get_or c.deref.result.now i d).0 (get_or c.deref.result.now j d).0
    (falls i j c.deref.result.now d (rw (was c) c.self.invariant.0.rising) h k) t)
    (λ a r q k. search rules)

given_now : (c : goal.After-unwrap)
    → lowest_first c.insert.new.self.items ≡ given c.args.frame.0 (lowest_first c.self.inside.frames.items)
given_now c =
    let items : c.insert.new.self.items ≡ insert c.self.inside.frames.items c.partition_point-place.result c.args.frame =
    rw c.unwrap.ensures at c.insert.ensures.items in
    let at_place : IsPlace c.partition_point-place.result c.args.frame.0 c.self.inside.frames.items =
    rw (was c) at (place c) in
    rw items
    (lowest_first-insert c.partition_point-place.result c.args.frame c.self.inside.frames.items
    (omega (arith, ap length (was c), c.partition_point-place.ensures.bound)) at_place)

pub returns-clause-frames : goal.returns-clause-frames
returns-clause-frames c = rw (← c.self.view_is) (given_now c)

pub invariant_of-self : goal.invariant_of-self
invariant_of-self c =
    let new : Contains (lowest_first c.self.inside.frames.items) c.args.frame.0 → ⊥ =
    rw (← c.self.view_is) at c.requires.new in
    let room : length (lowest_first c.self.inside.frames.items) < c.self.inside.room =
    rw (← c.self.view_is) at c.requires.room in
    rw (given_now c) (
      pool_given c.args.frame.0 c.self.inside.room
          (lowest_first c.self.inside.frames.items) new room c.self.invariant.0,
      omega (arith, c.self.invariant.1, c.insert.ensures.capacity),
    )

pub returns-clause-pool : goal.returns-clause-pool
returns-clause-pool c = (invariant_of-self c).0
