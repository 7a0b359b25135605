use Rattle.std.proofs.Common.{arith}
use Rattle.page_state.proofs.Cases.{by_lt}
use Rattle.ghost_coarse.proofs.lacking.first_unserved.Goals as goal

pub returns : goal.returns
returns c =
    λ i from less. c.loop-index.invariant i from
    (by_lt i c.loop-index.index (λ l. l) (λ l. absurd (omega (arith, l, less, c.loop-index-test.false))))
