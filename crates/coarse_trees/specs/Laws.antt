-- Laws of coarsest trees, each proved on the contract of a function of this crate.
use Rattle.std.specs.Prelude.{◌≡◌, ℕ, suc, ◌+◌, ◌*◌, ◌≤◌, ◌<◌, ◌↔◌, true, false, is_some, List, length, Option, Some, None, All, Contains}
use Rattle.page_state.specs.declared.entry.Entry.{Entry}
use Rattle.page_state.specs.Blocks.{first_page, fits_word, is_one_word}
use Rattle.page_state.specs.Entries.{advance}
use Rattle.page_state.specs.Geometries.{block_pages}
use Rattle.page_state.specs.Map.{Map}
use Rattle.page_state.specs.Tables.{Edit, edited_map, needs, need, freed, edited}
use Rattle.page_state.specs.Trees.{Block, Tree, root_tree, no_tree}
use Rattle.coarse_trees.specs.Coarsest.{IsInTree, wants_table, IsCoarsest, IsTreeOf, IsCanonical, IsInRange, map_need}

-- if a block can be one word, so can each of its 512 parts
abbrev pub PartsAreOneWord : Type 0
PartsAreOneWord =
    (m : Map) (d j i : ℕ)
    → i < 512
    → is_one_word m (suc d, j) ≡ true
    → is_one_word m (d, 512 * j + i) ≡ true

-- a block can be one word if each of its 512 parts can, one entry advances to the first page of
-- each part, and a word of the block's depth can encode that entry
abbrev pub OneWordOfParts : Type 0
OneWordOfParts =
    (m : Map) (d j : ℕ) (x : Entry)
    → fits_word (suc d) x ≡ true
    → ((i : ℕ)
    → i < 512
    → (is_one_word m (d, 512 * j + i) ≡ true)
    × (m (first_page (d, 512 * j + i)) ≡ advance x (i * block_pages d)))
    → is_one_word m (suc d, j) ≡ true

-- a coarsest tree is the only one of its map, and no tree of the map has fewer tables
abbrev pub CoarsestIsCanonical : Type 0
CoarsestIsCanonical = (depth : ℕ) (t : Tree) → IsCoarsest depth t → IsCanonical depth t

-- a coarsest tree with a root is a tree of its map
abbrev pub CoarsestIsTree : Type 0
CoarsestIsTree =
    (depth : ℕ) (t : Tree)
    → IsCoarsest depth t
    → is_some (t.table (depth + 1, 0)) ≡ true
    → IsTreeOf depth t

-- a tree that has only its root and maps nothing is coarsest
abbrev pub RootIsCoarsest : Type 0
RootIsCoarsest = (depth root : ℕ) → IsCoarsest depth (root_tree depth root)

-- and so is the absent tree
abbrev pub NoneIsCoarsest : Type 0
NoneIsCoarsest = (depth : ℕ) → IsCoarsest depth no_tree

-- a change of a coarsest tree, given enough frames, leaves a coarsest tree
abbrev pub EditKeepsCoarsest : Type 0
EditKeepsCoarsest =
    (depth : ℕ) (t : Tree) (e : Edit) (fs : List ℕ)
    → IsInRange depth e
    → IsCoarsest depth t
    → need depth t e ≤ length fs
    → IsCoarsest depth (edited depth t e fs)

-- a change needs a table at a block if and only if the block can't be one word afterwards and had
-- no table
abbrev pub NeededAreNew : Type 0
NeededAreNew =
    (depth : ℕ) (t : Tree) (e : Edit)
    → IsCoarsest depth t
    → (b : Block)
    → IsInTree depth b
    → b.0 ≤ depth
    → Contains (needs depth t e) b
    ↔ ((wants_table (edited_map t.map e) b ≡ true) × (t.table b ≡ None))

-- a change frees the table at a block if and only if the block can be one word afterwards and had a
-- table
abbrev pub FreedAreNeedless : Type 0
FreedAreNeedless =
    (depth : ℕ) (t : Tree) (e : Edit)
    → IsCoarsest depth t
    → (b : Block)
    → IsInTree depth b
    → b.0 ≤ depth
    → Contains (freed depth t e) b
    ↔ ((wants_table (edited_map t.map e) b ≡ false) × (is_some (t.table b) ≡ true))

-- the number of tables that a change needs follows from the map alone
abbrev pub NeedOfMaps : Type 0
NeedOfMaps =
    (depth : ℕ) (t : Tree) (e : Edit)
    → IsInRange depth e
    → IsCoarsest depth t
    → need depth t e ≡ map_need depth t.map e

-- the tree with a table at each block is a tree of any map: a tree may have more tables than it
-- needs
abbrev pub FullIsTree : Type 0
FullIsTree =
    (depth : ℕ) (m : Map) (frame : ℕ) → IsTreeOf depth (record { map = m; table = λ b. Some frame })
