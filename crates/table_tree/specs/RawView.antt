-- A raw tree, seen from outside: as a tree is (specs/View.antt).
use Rattle.std.specs.Prelude.{ℕ, List, Option}
use Rattle.page_state.specs.Map.{Map}
use Rattle.page_state.specs.Trees.{Tree as ReferenceTree}
use Rattle.table_tree.specs.declared.raw.RawTree.{RawTree}
use Rattle.table_tree.specs.Meaning.{word_at}
use Rattle.table_tree.specs.Roots.{map_under, table_under}

-- the map of a raw tree
unfoldable pub raw_meaning : {A : Type 0} → RawTree A → Map
raw_meaning t = map_under t.geometry t.table

-- the word at a path of indices, the root's first
unfoldable pub raw_word_of : {A : Type 0} → RawTree A → List ℕ → Option ℕ
raw_word_of t path = word_at t.table path

-- the frame of the table at a block
unfoldable pub raw_table_at : {A : Type 0} → RawTree A → ℕ → ℕ → Option ℕ
raw_table_at t = table_under t.geometry t.table

-- its map, and the frame of the table at each block
abbrev pub raw_tree_of : {A : Type 0} → RawTree A → ReferenceTree
raw_tree_of t = record { map = raw_meaning t; table = λ b. raw_table_at t b.0 b.1 }
