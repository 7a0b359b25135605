use Rattle.std.proofs.Common.{◌≡◌, ℕ, false, ◌<◌}
use Rattle.c_trees.specs.Given.{is_again}
use Rattle.c_trees.proofs.first.first_again.Given as goal

abbrev pub invariant-loop-i : goal.invariant-loop-i
invariant-loop-i g l = (j : ℕ) → j < l.i → is_again g.T.Numbered.number_of l.members j ≡ false
