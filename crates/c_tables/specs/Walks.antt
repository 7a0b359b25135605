-- How far a walk has come, and what it adds.
use Rattle.std.specs.Prelude.{◌≡◌, ℕ, ◌+◌, ◌*◌, List, AllPairs}
use Rattle.page_state.specs.declared.entry.Target.{Target}
use Rattle.page_state.specs.Entries.{advance_target}
use Rattle.page_state.specs.Geometries.{block_pages}
use Rattle.run_list.specs.declared.run.Run.{Run}
use Rattle.run_list.specs.Runs.{EndBefore}
use Rattle.run_list.specs.Targets.{HasFrameBelow}
use Rattle.run_list.specs.View.{IsKept}
use Rattle.c_tables.specs.declared.follow.PlainPage.{PlainPage}
use Rattle.c_tables.specs.declared.reached.Reached.{Reached}
use Rattle.c_tables.specs.ByFrames.{entry_by}
use Rattle.c_tables.specs.Laid.{laid, target_map}
use Rattle.c_tables.specs.Reached.{AreOtherFrames}

-- a walk has come to a page: the tables that it met have different frames, and its runs are kept
-- and end by the page
pub record HasComeTo (page : ℕ) (met : List Reached) (runs : List (Run Target)) : Type 0 where
  pub apart : AllPairs AreOtherFrames met
  pub kept : IsKept advance_target HasFrameBelow runs
  pub behind : EndBefore (page + 1) runs

-- the pages under a table at block `number` have the targets that it gives them, and the others
-- those that they had before
abbrev pub IsTableLaid : List PlainPage → ℕ → ℕ → PlainPage → List (Run Target) → List (Run Target)
    → Type 0
IsTableLaid pages depth number table old new =
    target_map new
    ≡ laid (number * block_pages (depth + 1)) (block_pages (depth + 1))
    (entry_by pages depth table) (target_map old)
