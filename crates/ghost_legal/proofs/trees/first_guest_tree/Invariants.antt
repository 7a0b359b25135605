use Rattle.std.proofs.Common.{take}
use Rattle.std.specs.Prelude.{All}
use Rattle.coarse_trees.specs.Coarsest.{IsCoarsest}
use Rattle.ghost_trees.specs.Trees.{tree_in_lists}
use Rattle.ghost_legal.proofs.trees.first_guest_tree.Given as goal

abbrev pub invariant-loop-slot : goal.invariant-loop-slot
invariant-loop-slot l = All (λ x. IsCoarsest l.depth (tree_in_lists x.tree)) (take l.slot l.state.guests.items)
