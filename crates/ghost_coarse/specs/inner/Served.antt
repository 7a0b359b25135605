-- Blocks that have a table, and those that need none.
use Rattle.std.specs.Prelude.{◌≡◌, ℕ, ◌+◌, ◌*◌, ◌/◌, ◌<◌, ◌≤◌, ◌⊎◌, ◌==◌, ◌++◌, true, false, is_some, List, [], ◌∷◌, All, Contains, if◌then◌else◌}
use Rattle.coarse_trees.specs.Coarsest.{IsInTree}
use Rattle.page_state.specs.declared.entry.Run.{Run}
use Rattle.page_state.specs.Blocks.{is_one_word}
use Rattle.page_state.specs.Geometries.{block_pages}
use Rattle.page_state.specs.Map.{Map}
use Rattle.page_state.specs.Runs.{entry_on, map_of, run_end}
use Rattle.page_state.specs.Trees.{Block, Tree}
use Rattle.ghost_trees.specs.declared.tree.Table.{Table}
use Rattle.ghost_trees.specs.Trees.{table_of}

-- the tree of runs and tables
abbrev pub tree_with : List Run → List Table → Tree
tree_with rs ts = record { map = map_of rs; table = table_of ts }

-- no word can encode the map at the block of any table below the root
abbrev pub AreNeeded : ℕ → Map → List Table → Type 0
AreNeeded depth m ts = All (λ t. t.block.0 ≤ depth → is_one_word m t.block ≡ false) ts

-- the map has the entries of a run along it
abbrev pub Goes : Map → Run → Type 0
Goes m r = (p : ℕ) → r.pages.first.0 ≤ p → p < run_end r → m p ≡ entry_on r p

-- the index of a block of the depth
abbrev pub index_in : ℕ → Block → List ℕ
index_in depth b = if b.0 == depth then b.1 ∷ [] else []

-- the indexes of the blocks of the depth that have a table
abbrev pub indexes_in : ℕ → List Table → List ℕ
indexes_in depth [] = []
indexes_in depth (t ∷ ts) = index_in depth t.block ++ indexes_in depth ts

-- a block of the depth is served: it is among those that have a table, or one word can encode the
-- map there
abbrev pub IsServed : Map → List ℕ → ℕ → ℕ → Type 0
IsServed m indexes depth index = Contains indexes index ⊎ (is_one_word m (depth, index) ≡ true)

-- each of the first `count` blocks of the depth is served
abbrev pub AreAllServed : Map → List ℕ → ℕ → ℕ → Type 0
AreAllServed m indexes depth count = (i : ℕ) → i < count → IsServed m indexes depth i

-- each block from one on and before another is served
abbrev pub AreServedFrom : Map → List ℕ → ℕ → ℕ → ℕ → Type 0
AreServedFrom m indexes depth from to = (i : ℕ) → from ≤ i → i < to → IsServed m indexes depth i

-- each block after one and before another is served
abbrev pub AreServedBetween : Map → List ℕ → ℕ → ℕ → ℕ → Type 0
AreServedBetween m indexes depth low high =
    (i : ℕ) → low < i → i < high → IsServed m indexes depth i

-- a run covers the blocks of the depth after one and before another
pub record CoversBetween (m : Map) (r : Run) (depth low high : ℕ) : Type 0 where
  pub goes : Goes m r
  pub first : r.pages.first.0 ≤ (low + 1) * block_pages depth
  pub end : high * block_pages depth < run_end r

-- the block of each page of the run is served, if it is one of the first `count`
abbrev pub AreServedOn : Map → List ℕ → ℕ → ℕ → Run → Type 0
AreServedOn m indexes depth count r =
    (p : ℕ)
    → r.pages.first.0 ≤ p
    → p < run_end r
    → p / block_pages depth < count
    → IsServed m indexes depth (p / block_pages depth)

-- one of the first `count` blocks of the depth isn't served
pub record IsUnserved (m : Map) (indexes : List ℕ) (depth count index : ℕ) : Type 0 where
  pub before : index < count
  pub neither : IsServed m indexes depth index → ⊥

-- the tree has a table at the block if no word can encode the map there
abbrev pub HasWanted : Tree → Block → Type 0
HasWanted t b = is_one_word t.map b ≡ false → is_some (t.table b) ≡ true

-- the same at each of the first `count` blocks of the depth
abbrev pub HasWantedAt : Tree → ℕ → ℕ → Type 0
HasWantedAt t depth count = (i : ℕ) → i < count → HasWanted t (depth, i)

-- the same at each block below the root
abbrev pub HasAllWanted : ℕ → Tree → Type 0
HasAllWanted depth t = (b : Block) → IsInTree depth b → b.0 ≤ depth → HasWanted t b

-- the tree has no table at the block, and no word can encode the map there
pub record IsWanting (t : Tree) (b : Block) : Type 0 where
  pub none : is_some (t.table b) ≡ false
  pub no_word : is_one_word t.map b ≡ false

-- the same at one of the first `count` blocks of the depth
abbrev pub IsWantingAt : Tree → ℕ → ℕ → ℕ → Type 0
IsWantingAt t depth count i = (i < count) × IsWanting t (depth, i)
