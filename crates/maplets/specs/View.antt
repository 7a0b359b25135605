-- The view of maplets in contracts.
use Rattle.std.specs.Prelude.{ℕ, ◌^◌, ◌≤◌, List, map}
use Rattle.page_state.specs.declared.entry.Run.{Run}
use Rattle.page_state.specs.declared.entry.Target.{Target}
use Rattle.run_list.specs.declared.run.Run.{Run as ListRun}
use Rattle.run_list.specs.Targets.{HasFrameBelow}
use Rattle.page_state.specs.Runs.{run_end}

-- the coarsest list of runs, and for how many more runs there is room
pub record KeptMaplets : Type 0 where
  pub runs : List Run
  pub room : ℕ

-- a kept run of a target, as a run of the map
abbrev pub target_run : ListRun Target → Run
target_run r = record { pages = r.pages; target = r.value }

-- the kept runs, as runs of the map
abbrev pub target_runs : List (ListRun Target) → List Run
target_runs runs = map target_run runs

-- code reaches each page of a run, and each frame on it, without overflow
abbrev pub IsInReach : Run → Type 0
IsInReach r = (run_end r ≤ 2 ^ 63) × HasFrameBelow r.target r.pages.count
