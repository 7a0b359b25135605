use Rattle.std.proofs.Common.{rules}
use Rattle.table_tree.proofs.stock.Stock.turned.Goals as goal

pub returns : goal.returns
returns c = search rules
