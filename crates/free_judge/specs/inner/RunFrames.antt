-- The memory frames of a run of rows, if their use is a guest's pool.
use Rattle.std.specs.Prelude.{ℕ, ◌+◌, ◌-◌, Bool, List, [], filter, min, if◌then◌else◌}
use Rattle.page_state.specs.Trees.{frames_from}
use Rattle.page_state.specs.declared.row.Row.{Row}
use Rattle.run_list.specs.declared.run.Run.{Run}
use Rattle.run_list.specs.Runs.{run_end}
use Rattle.freedoms.specs.Laws.{is_pool_of}

-- the frames of a run below a page that pass the test, if the run's use is the guest's pool
abbrev pub run_frames : (ℕ → Bool) → ℕ → ℕ → Run Row → List ℕ
run_frames test v end r =
    if is_pool_of v r.value.usage then
    filter test (frames_from r.pages.first.0 (min (run_end r) end - r.pages.first.0))
    else []
