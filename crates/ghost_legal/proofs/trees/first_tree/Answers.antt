use Rattle.std.proofs.Common.{subst, ℕ}
use Rattle.coarse_trees.specs.Coarsest.{IsCoarsest}
use Rattle.ghost_trees.specs.Trees.{tree_in_lists}
use Rattle.ghost_coarse.proofs.Along.{told-none}
use Rattle.ghost_legal.proofs.Found.{trees-joined-in}
use Rattle.ghost_legal.proofs.trees.first_tree.Goals as goal

pub returns : goal.returns
returns c =
    let g = c.args.state.now in
    let n = c.depth_of-depth.ensures.value in
    trees-joined-in g c.first_guest_tree.result
    (subst (λ (d : ℕ). IsCoarsest d (tree_in_lists g.shared.host)) n
    (told-none _ _ c.in_ok-misfit.field-0 c.in_default.is c.in_ok-misfit.ensures))
    (subst (λ (d : ℕ). IsCoarsest d (tree_in_lists g.shared.hyp)) n
    (told-none _ _ c.in_ok-misfit-2.field-0 c.in_default-2.is c.in_ok-misfit-2.ensures))
    c.first_guest_tree.ensures
