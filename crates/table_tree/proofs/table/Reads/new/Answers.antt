use Rattle.std.proofs.Common.{rules}
use Rattle.table_tree.proofs.table.Reads.new.Goals as goal

pub returns : goal.returns
returns c = search rules
