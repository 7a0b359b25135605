use Rattle.std.proofs.Common.{subst, ℕ, ◌<◌}
use Rattle.ghost_trees.specs.Trees.{tree_in_lists}
use Rattle.ghost_coarse.specs.inner.Served.{HasWanted}
use Rattle.ghost_coarse.proofs.Along.{all-depths, one-depth-more, told-none}
use Rattle.ghost_coarse.proofs.lacking.first_lacking.Goals as goal

pub loop-d-preserved : goal.loop-d-preserved
loop-d-preserved c =
    let t = tree_in_lists c.args.tree.now in
    one-depth-more c.args.depth t c.loop-d.d c.loop-d.auto.d c.loop-d.invariant
    (subst (λ (n : ℕ). (i : ℕ) → i < n → HasWanted t (c.loop-d.d, i)) c.span.ensures
    (told-none _ _ c.in_ok-index.field-0 c.in_default.is c.in_ok-index.ensures))

pub returns : goal.returns
returns c = all-depths c.args.depth c.loop-d.d (tree_in_lists c.args.tree.now) c.loop-d-test.false c.loop-d.invariant
