use Rattle.std.proofs.Common.{arith, ◌-◌, vec_len}
use Rattle.hyp_pool.proofs.Pools.{pool_take, least_popped}
use Rattle.hyp_pool.proofs.Pool.take.Goals as goal

pub invariant_of-self : goal.invariant_of-self
invariant_of-self c =
    rw c.pop.ensures.rest (
      pool_take (vec_len c.self.inside.frames - 1) c.self.inside.room c.self.inside.frames.items
          (omega (arith, c.self.inside.frames.ok)) c.self.invariant.0,
      omega (arith, c.self.invariant.1, c.pop.ensures.capacity),
    )

pub returns-clause-pool : goal.returns-clause-pool
returns-clause-pool c = (invariant_of-self c).0

pub returns-clause-least : goal.returns-clause-least
returns-clause-least c =
    least_popped c.pop.result c.self.inside.frames.items c.pop.new.self.items c.pop.ensures.items
    c.self.invariant.0.rising
