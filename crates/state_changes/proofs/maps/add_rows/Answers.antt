use Rattle.std.proofs.Common.{◌++◌, ◌∙◌, List, ap, codes, refl}
use Rattle.page_state.specs.declared.row.Row.{Row}
use Rattle.run_list.specs.declared.run.Run.{Run}
use Rattle.run_changes.specs.declared.change.Change.{Change}
use Rattle.state_changes.specs.Changed.{run_lines, text_of_some_row}
use Rattle.state_changes.proofs.Differences.{row_changes, rows_apart}
use Rattle.state_changes.proofs.maps.add_rows.Goals as goal

pub changes-requires : goal.changes-requires
changes-requires c = record { apart = rows_apart }

pub returns : goal.returns
returns c = (
  run_lines text_of_some_row (codes "owner") c.in_ok-found.found.runs,
  record {
    runs = c.in_ok-found.found.runs;
    coarsest = c.runs.ensures.coarsest;
    changes = λ p. row_changes _ _ _ (c.requires.frames p) (c.in_ok-found.ensures p);
    lines = refl;
  },
  c.in_ok-add_row_runs.ensures
      ∙ ap
      (λ (rs : List (Run (Change Row))). c.args.text.now.items
      ++ run_lines text_of_some_row (codes "owner") rs) c.runs.ensures.runs,
)
