-- A chain, seen as a list of frames.
use Rattle.std.specs.Prelude.{ℕ, List}
use Rattle.table_tree.specs.declared.chain.Chain.{Chain}

-- the frames of the tables of a chain
unfoldable pub links_of : {A : Type 0} → Chain A → List ℕ
links_of c = c.chained.0
