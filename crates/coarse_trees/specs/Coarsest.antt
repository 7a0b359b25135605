-- Coarsest trees: below the root there is a table at a block if and only if the block can't be one
-- word.
use Rattle.std.specs.Prelude.{◌≡◌, ℕ, ◌+◌, ◌-◌, ◌/◌, ◌≤◌, ◌<◌, Bool, true, false, not, ◌&&◌, is_some, List, length, filter, Some, None}
use Rattle.page_state.specs.Blocks.{is_one_word}
use Rattle.page_state.specs.Geometries.{block_pages}
use Rattle.page_state.specs.Map.{Map}
use Rattle.page_state.specs.Tables.{Edit, keep, put, edited_map, edit_blocks}
use Rattle.page_state.specs.Trees.{Block, Tree}

-- a block of a tree with `depth` levels below its root; the root's own block is one
pub record IsInTree (depth : ℕ) (b : Block) : Type 0 where
  pub some : 1 ≤ b.0
  pub top : b.0 ≤ depth + 1
  pub index : b.1 < block_pages (depth + 1 - b.0)

-- the block can't be one word
abbrev pub wants_table : Map → Block → Bool
wants_table m b = not (is_one_word m b)

-- the coarsest tree of its map: tables are only at blocks of the tree, and below the root at a
-- block if and only if it can't be one word
pub record IsCoarsest (depth : ℕ) (t : Tree) : Type 0 where
  pub inside : (b : Block) (f : ℕ) → t.table b ≡ Some f → IsInTree depth b
  pub below : (b : Block)
      → IsInTree depth b
      → b.0 ≤ depth
      → is_some (t.table b) ≡ wants_table t.map b

-- the block whose table has the word of a block
abbrev pub block_above : Block → Block
block_above b = (b.0 + 1, b.1 / 512)

-- any tree of its map: it has a root, and each word of a table that has no table below it is for a
-- block that can be one word
pub record IsTreeOf (depth : ℕ) (t : Tree) : Type 0 where
  pub root : is_some (t.table (depth + 1, 0)) ≡ true
  pub words : (b : Block)
      → IsInTree depth b
      → b.0 ≤ depth
      → is_some (t.table (block_above b)) ≡ true
      → is_some (t.table b) ≡ false
      → is_one_word t.map b ≡ true

-- the number of blocks of a list that have a table
abbrev pub table_number : Tree → List Block → ℕ
table_number t bs = length (filter (λ b. is_some (t.table b)) bs)

-- the tree is the coarsest tree of its map; any other coarsest tree of the map differs only in the
-- frames of its tables; and no tree of the map has fewer tables on any list of blocks
pub record IsCanonical (depth : ℕ) (t : Tree) : Type 0 where
  pub coarsest : IsCoarsest depth t
  pub only : (u : Tree)
      → IsCoarsest depth u
      → u.map ≡ t.map
      → (b : Block)
      → IsInTree depth b
      → b.0 ≤ depth
      → is_some (u.table b) ≡ is_some (t.table b)
  pub fewest : (u : Tree)
      → IsTreeOf depth u
      → u.map ≡ t.map
      → (bs : List Block)
      → table_number t bs ≤ table_number u bs

-- the pages of a change are input pages of a tree of the depth
abbrev pub IsInRange : ℕ → Edit → Type 0
IsInRange depth keep = Unit {0}
IsInRange depth (put first count entry) = first + count ≤ block_pages (depth + 1)

-- the number of tables that a change of the coarsest tree of a map needs: the blocks on its range
-- that can be one word before and can't afterwards
abbrev pub map_need : ℕ → Map → Edit → ℕ
map_need depth m e =
    length (filter (λ b. is_one_word m b && wants_table (edited_map m e) b) (edit_blocks depth e))
