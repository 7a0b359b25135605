-- Stocks, seen as the frames of their tables, and spares, seen as their number.
use Rattle.std.specs.Prelude.{ℕ, List, length}
use Rattle.table_tree.specs.declared.spares.Spares.{Spares}
use Rattle.table_tree.specs.declared.stock.Stock.{Stock}
use Rattle.table_tree.specs.Links.{links_of}

-- the frames of the tables of a stock, in the order in which they are taken
unfoldable pub frames_of : {A : Type 0} → Stock A → List ℕ
frames_of s = links_of s.chain

-- the number of spares
unfoldable pub kept_in : {A : Type 0} → Spares A → ℕ
kept_in s = length (links_of s.chain)
