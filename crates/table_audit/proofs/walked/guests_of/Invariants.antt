use Rattle.std.proofs.Common.{◌≡◌, length}
use Rattle.std.specs.Prelude.{All}
use Rattle.ghost_trees.specs.KeptTrees.{IsKeptTree}
use Rattle.table_audit.specs.Found.{AreTreesOf}
use Rattle.table_audit.proofs.walked.guests_of.Given as goal

abbrev pub invariant-loop-v : goal.invariant-loop-v
invariant-loop-v l = record {
  made : AreTreesOf l.guests l.trees l.v l.made.items;
  kept : All (λ g. IsKeptTree g.tree) l.made.items;
  count : length l.made.items ≡ l.v;
}
