-- The snapshot of a machine (profile).
use Rattle.std.specs.Prelude.{◌≡◌, ℕ, List, [], ◌++◌, Option, Some, None, if◌then◌else◌}
use Rattle.owner_table.specs.Rows.{row_at}
use Rattle.page_state.specs.declared.row.Row.{Row}
use Rattle.page_state.specs.Layouts.{is_memory}
use Rattle.page_state.specs.Rows.{advance_row}
use Rattle.run_list.specs.declared.run.Run.{Run}
use Rattle.run_list.specs.Runs.{IsCoarsest}
use Rattle.trace_draw.specs.declared.course.Ended.{Ended}
use Rattle.trace_draw.specs.Courses.{IsRunOf}
use Rattle.trace_draw.specs.Texts.{text_of_runs, text_of_slots}
use Rattle.trace_text.specs.Session.{Standing}
use Rattle.trace_text.specs.Worlds.{Machine}

-- the owner rows of a machine: the one coarsest list of runs that gives each memory frame its row,
-- and no other frame one
pub record AreRowsOf (m : Machine) (runs : List (Run Row)) : Type 0 where
  pub coarsest : IsCoarsest advance_row runs
  pub rows : (f : ℕ)
      → row_at runs f
      ≡ (if is_memory m.layout f then Some (m.state.contents.shared.row f) else None)

-- the text of a machine: its owner rows by frame, and then its 64 slots
pub record IsTextOf (m : Machine) (text : List ℕ) : Type 0 where
  pub runs : List (Run Row)
  pub of_machine : AreRowsOf m runs
  pub text_is : text ≡ text_of_runs runs ++ text_of_slots m.state.contents.vms.slot 64

-- without a machine there is no text
abbrev pub ReportsMachine : Option Machine → List ℕ → Type 0
ReportsMachine None text = text ≡ []
ReportsMachine (Some m) text = IsTextOf m text

-- the text of the state at which a run of a trace ends, and how it ends
pub record IsSnapshot (trace : List ℕ) (ended : Ended) (text : List ℕ) : Type 0 where
  pub standing : Standing
  pub run : IsRunOf trace standing ended
  pub told : ReportsMachine standing.machine text
