-- The tree of a root.
use Rattle.std.specs.Prelude.{ℕ, ◌+◌, ◌≤◌, List, map}
use Rattle.page_state.specs.declared.layout.Geometry.{Geometry}
use Rattle.page_state.specs.Map.{Map}
use Rattle.page_state.specs.Trees.{Tree}
use Rattle.ghost_trees.specs.declared.tree.Table.{Table}
use Rattle.ghost_trees.specs.Trees.{table_of}
use Rattle.walked_tables.specs.declared.follow.TablePage.{TablePage}
use Rattle.walked_tables.specs.declared.reached.Reached.{Reached}
use Rattle.walked_tables.specs.ByFrames.{map_by_frames, tables_by_frames}
use Rattle.c_trees.specs.declared.root.PlainRoot.{PlainRoot}
use Rattle.c_trees.specs.Entries.{entries_by, without}
use Rattle.c_trees.specs.Roots.{depth_of, profile_in, root_pages}

-- a table that is reached, by its block
abbrev pub as_table : Reached → Table
as_table r = record { block = (r.depth + 1, r.number); frame = r.frame }

-- it has a level
abbrev pub HasLowDepth : Reached → Type 0
HasLowDepth r = r.depth ≤ 3

module _ (g : Geometry) (pages : List TablePage) (root : PlainRoot) where
  -- its tables, each before those below it
  abbrev pub tables_by_root : List Reached
  tables_by_root =
      tables_by_frames (profile_in root) pages root.tree (depth_of g root) (root_pages pages root)

  -- its map, by the kept one
  abbrev pub map_by_root : Map → Map
  map_by_root kept =
      without root.skips.now
      (entries_by (profile_in root) kept
      (map_by_frames (profile_in root) pages (depth_of g root) (root_pages pages root)))

  -- both
  abbrev pub tree_by_root : Map → Tree
  tree_by_root kept =
      record { map = map_by_root kept; table = table_of (map as_table tables_by_root) }
