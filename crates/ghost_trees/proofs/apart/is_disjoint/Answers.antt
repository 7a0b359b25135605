use Rattle.std.proofs.Common.{arith}
use Rattle.page_state.proofs.Ranges.{disjoint, disjoint_swap}
use Rattle.ghost_trees.proofs.apart.is_disjoint.Goals as goal

pub returns-then-a-b : goal.returns-then-a-b
returns-then-a-b c = disjoint c.args.a c.args.b c.if-a-b.true c.if-b-eq0.false.1

pub returns-else-a-b : goal.returns-else-a-b
returns-else-a-b c =
    let e = disjoint c.args.b c.args.a (omega (arith, c.if-a-b.false)) c.if-b-eq0.false.0 in
    (λ t. disjoint_swap _ _ (e.0 t), λ d. e.1 (disjoint_swap _ _ d))
