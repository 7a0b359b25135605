-- Maps some of whose pages have the entries of another.
use Rattle.std.specs.Prelude.{ℕ, List, if◌then◌else◌}
use Rattle.page_state.specs.declared.entry.Target.{Target}
use Rattle.page_state.specs.Map.{Map, is_within}
use Rattle.page_state.specs.Runs.{map_of}
use Rattle.run_list.specs.declared.run.Run.{Run}
use Rattle.maplets.specs.View.{target_runs}

-- a map in which `count` pages from the first on have what another says
abbrev pub laid : ℕ → ℕ → Map → Map → Map
laid first count above below page = if is_within first count page then above page else below page

-- the map of kept runs
abbrev pub target_map : List (Run Target) → Map
target_map runs = map_of (target_runs runs)
