use Rattle.std.proofs.Common.{ℕ, ◌<◌}
use Rattle.ghost_trees.specs.Apart.{IsApartFromLater}
use Rattle.ghost_trees.proofs.apart.are_apart.Given as goal

abbrev pub invariant-loop-i : goal.invariant-loop-i
invariant-loop-i g l = (i : ℕ) → i < l.i → IsApartFromLater g.T.Apart.IsApart l.items i
