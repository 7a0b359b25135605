use Rattle.std.proofs.Common.{◌+◌, ◌<◌, ℕ}
use Rattle.std.specs.Prelude.{IsSome}
use Rattle.walked_tables.specs.ByFrames.{page_of}
use Rattle.c_trees.proofs.tested.has_pages.Given as goal

abbrev pub invariant-loop-k : goal.invariant-loop-k
invariant-loop-k l = (j : ℕ) → j < l.k → IsSome (page_of l.pages (l.root.frame + j))
