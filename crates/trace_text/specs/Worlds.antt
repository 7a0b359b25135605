-- A booted machine, and what a report says of it, in the words of the reference state (profile).
use Rattle.std.specs.Prelude.{◌≡◌, ℕ, ◌+◌, ◌-◌, ◌<◌, ◌≤◌, Option, Some, None, IsSome, is_some, filter, length, List}
use Rattle.page_state.specs.Blocks.{block_at}
use Rattle.page_state.specs.Geometries.{pages_below}
use Rattle.page_state.specs.declared.layout.Config.{Config}
use Rattle.page_state.specs.Layouts.{Layout}
use Rattle.page_state.specs.declared.entry.Run.{Run}
use Rattle.page_state.specs.Regions.{Memory}
use Rattle.page_state.specs.Runs.{IsCoarsest, map_of}
use Rattle.page_state.specs.Trees.{Tree}
use Rattle.reference_model.specs.model.Boot.{CanBoot, boot}
use Rattle.reference_model.specs.model.State.{Reference}
use Rattle.table_tree.specs.AllBlocks.{blocks_in}
use Rattle.table_tree.specs.Said.{block_above, IsWordOf, IsRunOrTable}
use Rattle.trace_lines.specs.declared.line.TreeName.{TreeName}
use Rattle.trace_lines.specs.declared.line.TreeName.TheVariants.{Host, Hyp, Guest}

-- a booted machine: its layout, which never changes, and the state in which it is
pub record Machine : Type 0 where
  pub layout : Layout
  pub state : Reference

-- the machine that boots on memory and a configuration: its layout has exactly these and can boot,
-- and its state is the boot state
pub record IsBootOf (memory : Memory) (config : Config) (m : Machine) : Type 0 where
  pub memory_is : m.layout.memory ≡ memory
  pub config_is : m.layout.config ≡ config
  pub ready : CanBoot m.layout
  pub state_is : m.state ≡ boot m.layout

-- the machine in another state
abbrev pub in_state : Machine → Reference → Machine
in_state m next = record { layout = m.layout; state = next }

-- a named tree; that of an Empty guest, and of a slot past the last, has no table and nothing
-- mapped
abbrev pub named_tree : Machine → TreeName → Tree
named_tree m Host = m.state.contents.shared.host
named_tree m Hyp = m.state.contents.shared.hyp
named_tree m (Guest slot) = (m.state.contents.guest slot).tree

-- the number of a tree's tables: that of the blocks, from the one of all pages down, that have one
abbrev pub tree_table_count : Machine → TreeName → ℕ
tree_table_count m tree =
    length (filter (λ b. is_some ((named_tree m tree).table b)) (blocks_in (m.layout.depth + 1) 0))

-- the number of free frames of the shared pool
abbrev pub shared_free_count : Machine → ℕ
shared_free_count m = length m.state.contents.shared.free

-- the number of free frames of the pool of the guest in a slot; an Empty guest has none
abbrev pub guest_free_count : Machine → ℕ → ℕ
guest_free_count m slot = length (m.state.contents.guest slot).free

-- a tree with that many levels below its root's has a word on a page's path at a level: it has a
-- root, which an Empty guest's tree hasn't, the page is good, the level is none above the root's,
-- and below the root's there is the table that has the word
pub record HasWordOn (depth : ℕ) (tree : Tree) (page level : ℕ) : Type 0 where
  pub root : IsSome (tree.table (depth + 1, 0))
  pub good : page < pages_below depth
  pub top : 3 ≤ level + depth
  pub bottom : level ≤ 3
  pub stands : 3 < level + depth → IsSome (tree.table (block_above (block_at (3 - level) page)))

-- the word on a page's path at a level: that of the level's block which holds the page. None if
-- there is no word
abbrev pub IsWordOn : ℕ → Tree → ℕ → ℕ → Option ℕ → Type 0
IsWordOn depth tree page level None = ¬ HasWordOn depth tree page level
IsWordOn depth tree page level (Some word) =
    HasWordOn depth tree page level
    × IsWordOf tree (block_at (3 - level) page) word
    × IsRunOrTable tree (block_at (3 - level) page)

-- the maplets of a tree: the coarsest list of runs of its map
pub record HasMaplets (tree : Tree) (runs : List Run) : Type 0 where
  pub map_is : tree.map ≡ map_of runs
  pub coarsest : IsCoarsest runs
