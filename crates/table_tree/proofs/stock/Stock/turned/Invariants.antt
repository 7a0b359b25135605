use Rattle.std.proofs.Common.{◌≡◌, ◌++◌, length, reverse}
use Rattle.table_tree.specs.Stocks.{frames_of}
use Rattle.table_tree.proofs.stock.Stock.turned.Given as goal

abbrev pub invariant-loop-table : goal.invariant-loop-table
invariant-loop-table g l = reverse (frames_of l.rest) ++ frames_of l.turned ≡ reverse (frames_of l.fn.self)

abbrev pub decreases-loop-table : goal.decreases-loop-table
decreases-loop-table g l = length (frames_of l.rest)
