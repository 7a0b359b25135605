use Rattle.std.proofs.Common.{length}
use Rattle.table_tree.specs.Links.{links_of}
use Rattle.table_tree.proofs.spares.Spares.drop.Given as goal

abbrev pub decreases-loop-table : goal.decreases-loop-table
decreases-loop-table g l = length (links_of l.chain)
