-- The words of a tree, by its map and its tables.
use Rattle.std.specs.Prelude.{◌≡◌, ℕ, ◌+◌, ◌-◌, ◌*◌, ◌/◌, ◌^◌, ◌<◌, ◌≤◌, List, length, All, IsSome, MatchOption}
use Rattle.std.specs.List.{fold}
use Rattle.descriptor.specs.Word.{desc_of}
use Rattle.page_state.specs.declared.entry.Entry.{Entry}
use Rattle.page_state.specs.declared.layout.Geometry.{Geometry}
use Rattle.page_state.specs.Entries.{advance, entry_of_word}
use Rattle.page_state.specs.Blocks.{span, first_page}
use Rattle.page_state.specs.Trees.{Block, Tree as ReferenceTree}
use Rattle.page_state.specs.Geometries.{levels_below}
use Rattle.table_tree.specs.Meaning.{level_at, table_word}

-- the number whose digits of base 512 the indices are
abbrev pub block_number : List ℕ → ℕ
block_number path = fold (λ n i. n * 512 + i) 0 path

-- the block that a path of indices leads to from the root, the block of all pages (Arm DDI 0487,
-- D8.2)
abbrev pub block_of : Geometry → List ℕ → Block
block_of geometry path = (levels_below geometry + 1 - length path, block_number path)

-- the block whose table has the word of a block
abbrev pub block_above : Block → Block
block_above b = (b.0 + 1, b.1 / 512)

-- a word is at the path: there is the table that the indices before the last one lead to, for one
-- index the root
pub record HasWord (geometry : Geometry) (tree : ReferenceTree) (path : List ℕ) : Type 0 where
  pub some : 1 ≤ length path
  pub no_deeper : length path ≤ levels_below geometry + 1
  pub indices : All (λ i. i < 512) path
  pub stands : 2 ≤ length path → IsSome (tree.table (block_above (block_of geometry path)))

-- the word of 64 bits, with `depth` levels below it, that gives its first page the entry; no other
-- does
pub record IsOnlyWord (depth : ℕ) (entry : Entry) (word : ℕ) : Type 0 where
  pub small : word < 2 ^ 64
  pub gives : entry_of_word (desc_of (level_at depth) word) ≡ entry
  pub alone : (other : ℕ)
      → other < 2 ^ 64
      → entry_of_word (desc_of (level_at depth) other) ≡ entry
      → other ≡ word

-- the word of a block: that of the table there, and without one that of the first page's entry
abbrev pub IsWordOf : ReferenceTree → Block → ℕ → Type 0
IsWordOf tree b word =
    MatchOption (tree.table b) (IsOnlyWord b.0 (tree.map (first_page b)) word)
    (λ frame. word ≡ table_word frame)

-- the block has a table, or its first page's entry advances along it
abbrev pub IsRunOrTable : ReferenceTree → Block → Type 0
IsRunOrTable tree b =
    MatchOption (tree.table b)
    ((i : ℕ) → i < span b → tree.map (first_page b + i) ≡ advance (tree.map (first_page b)) i)
    (λ _. Unit {0})
