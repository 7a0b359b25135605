-- A tree, seen from outside.
use Rattle.std.specs.Prelude.{ℕ, List, Option}
use Rattle.page_state.specs.Map.{Map}
use Rattle.page_state.specs.Trees.{Tree as ReferenceTree}
use Rattle.page_state.specs.Geometries.{levels_below}
use Rattle.table_tree.specs.declared.tree.Tree.{Tree}
use Rattle.table_tree.specs.Meaning.{word_at, frame_of}
use Rattle.table_tree.specs.Stocks.{kept_in}
use Rattle.table_tree.specs.Tables.{tables_in, uses_in}
use Rattle.table_tree.specs.Roots.{map_under, table_under}

-- the map of a tree
unfoldable pub meaning : {A : Type 0} → Tree A → Map
meaning t = map_under t.geometry t.table

-- the word at a path of indices, the root's first
unfoldable pub word_of : {A : Type 0} → Tree A → List ℕ → Option ℕ
word_of t path = word_at t.table path

-- the frame of the table at a block: `number` of the blocks of 512 ^ `depth` pages
unfoldable pub table_at : {A : Type 0} → Tree A → ℕ → ℕ → Option ℕ
table_at t = table_under t.geometry t.table

-- how often a frame is a table of the tree
unfoldable pub uses : {A : Type 0} → Tree A → ℕ → ℕ
uses t frame = uses_in (levels_below t.geometry) t.table frame

-- the number of tables
unfoldable pub tables_of : {A : Type 0} → Tree A → ℕ
tables_of t = tables_in (levels_below t.geometry) t.table

-- the frame of the root table
unfoldable pub root_of : {A : Type 0} → Tree A → ℕ
root_of t = frame_of t.table

-- the number of spares: tables without a frame, which are at no block
unfoldable pub spares_of : {A : Type 0} → Tree A → ℕ
spares_of t = kept_in t.spares

-- the tree of the reference state that a tree is: its map, and the frame of the table at each block
abbrev pub tree_of : {A : Type 0} → Tree A → ReferenceTree
tree_of t = record { map = meaning t; table = λ b. table_at t b.0 b.1 }
