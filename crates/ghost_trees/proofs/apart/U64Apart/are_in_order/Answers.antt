use Rattle.std.proofs.Common.{arith}
use Rattle.ghost_trees.proofs.apart.U64Apart.are_in_order.Goals as goal

pub returns : goal.returns
returns c = λ t i j d h l e.
    let less = c.increase.ensures t i j d h l in
    omega (arith, less, e)
