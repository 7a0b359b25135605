-- The tree that lists of runs and of tables represent.
use Rattle.std.specs.Prelude.{ℕ, Bool, true, false, not, is_some, ◌^◌, ◌≤◌, List, [], ◌∷◌, Option, Some, None, if◌then◌else◌}
use Rattle.std.specs.List.{list_any}
use Rattle.page_state.specs.Trees.{Block, Tree}
use Rattle.page_state.specs.Blocks.{block_eq, first_page, is_one_word}
use Rattle.page_state.specs.Map.{Map}
use Rattle.page_state.specs.Runs.{map_of}
use Rattle.ghost_trees.specs.declared.tree.Table.{Table}
use Rattle.ghost_trees.specs.declared.tree.Tree.{Tree as TreeOfLists}

-- the frame of the table at each block: the first table of the list at the block counts
abbrev pub table_of : List Table → Block → Option ℕ
table_of [] b = None
table_of (t ∷ ts) b = if block_eq t.block b then Some t.frame else table_of ts b

-- the tree of runs and tables
abbrev pub tree_in_lists : TreeOfLists → Tree
tree_in_lists t = record { map = map_of t.runs.items; table = table_of t.tables.items }

-- a block of pages below 2^64, of a depth that trees have
abbrev pub IsLowBlock : Block → Type 0
IsLowBlock b = (b.0 ≤ 3) × (first_page b ≤ 2 ^ 63)

-- a block has no table, and can't be one word of the map
abbrev pub lacks_table : Map → List Table → Block → Bool
lacks_table m ts b = elim (is_some (table_of ts b)) [ true ↦ false | false ↦ not (is_one_word m b) ]

-- a block has a table, and can be one word of the map
abbrev pub loses_table : Map → List Table → Block → Bool
loses_table m ts b = elim (is_some (table_of ts b)) [ true ↦ is_one_word m b | false ↦ false ]

-- a block is one of a list
abbrev pub has_block : Block → List Block → Bool
has_block b bs = list_any (λ a. block_eq a b) bs

-- tables at blocks with frames, in order, as far as there are both
abbrev pub tables_with : List Block → List ℕ → List Table
tables_with [] fs = []
tables_with (b ∷ bs) [] = []
tables_with (b ∷ bs) (f ∷ fs) = record { block = b; frame = f } ∷ tables_with bs fs
