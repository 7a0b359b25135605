-- The results of searches of lists.
use Rattle.std.specs.Prelude.{ℕ, ◌+◌, ◌-◌, Bool, ◌&&◌, nat_le, nat_lt, List, [], ◌∷◌, Option, Some, None, if◌then◌else◌}
use Rattle.std.specs.List.{list_any}
use Rattle.descriptor.specs.declared.State.{State}
use Rattle.page_state.specs.declared.entry.PageRange.{PageRange}
use Rattle.page_state.specs.declared.entry.Run.{Run}
use Rattle.page_state.specs.declared.entry.Target.{Target}
use Rattle.page_state.specs.declared.entry.Target.TheVariants.{Leaf}
use Rattle.page_state.specs.EntryTests.{state_eq}
use Rattle.page_state.specs.Geometries.{block_pages}
use Rattle.page_state.specs.Map.{is_within}
use Rattle.page_state.specs.Trees.{Block}
use Rattle.reference_model.specs.model.Owner.{is_frame}
use Rattle.ghost_trees.specs.declared.tree.Table.{Table}
use Rattle.ghost_trees.specs.Trees.{table_of}

-- the page of a range with a target that maps the frame in the state
abbrev pub target_page : ℕ → State → PageRange → Target → Option ℕ
target_page f s pages (Leaf frame prot kind state) =
    if state_eq state s && is_within frame.0 pages.count f then Some (pages.first.0 + (f - frame.0))
    else None
target_page f s pages other = None

-- the page of a run that maps the frame in the state
abbrev pub run_page : ℕ → State → Run → Option ℕ
run_page f s r = target_page f s r.pages r.target

-- the page of the first run that has one
abbrev pub first_page_in : ℕ → State → List Run → Option ℕ
first_page_in f s [] = None
first_page_in f s (r ∷ rs) =
    elim (run_page f s r) [ Some page ↦ Some page | None ↦ first_page_in f s rs ]

-- a block may have a table in trees of the depth, the root's among them
abbrev pub has_place : ℕ → Block → Bool
has_place depth b =
    nat_le 1 b.0 && nat_le b.0 (depth + 1) && nat_lt b.1 (block_pages (depth + 1 - b.0))

-- a table that counts is at such a block and has the frame
abbrev pub is_table_with : ℕ → List Table → ℕ → Table → Bool
is_table_with depth ts f t = has_place depth t.block && is_frame f (table_of ts t.block)

-- some table of the list is one
abbrev pub any_table_with : ℕ → List Table → ℕ → Bool
any_table_with depth ts f = list_any (is_table_with depth ts f) ts
