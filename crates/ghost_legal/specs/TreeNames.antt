-- Whose tree has a number.
use Rattle.std.specs.Prelude.{ℕ, zero, suc}
use Rattle.ghost_judge.specs.declared.disagreement.TreeOf.{TreeOf}
use Rattle.ghost_judge.specs.declared.disagreement.TreeOf.TheVariants.{Host, Hyp, Guest}

-- the tree of a number
abbrev pub tree_named : ℕ → TreeOf
tree_named zero = Host
tree_named (suc zero) = Hyp
tree_named (suc (suc v)) = Guest v
