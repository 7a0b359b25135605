use Rattle.std.proofs.Common.{◌≡◌, arith}
use Rattle.ghost_oracle.proofs.pokes.no_pokes.Goals as goal

pub returns : goal.returns
returns g c = let e : c.loop.counter ≡ 64 = omega (arith, c.loop-test.false, c.loop.auto.counter-end) in
    rw e at c.loop.invariant
