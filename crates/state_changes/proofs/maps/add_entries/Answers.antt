use Rattle.std.proofs.Common.{◌++◌, ◌∙◌, List, ap, refl}
use Rattle.page_state.specs.declared.entry.Target.{Target}
use Rattle.run_list.specs.declared.run.Run.{Run}
use Rattle.run_changes.specs.declared.change.Change.{Change}
use Rattle.state_changes.specs.Changed.{run_lines, text_of_target}
use Rattle.state_changes.specs.Labels.{text_of_label}
use Rattle.state_changes.proofs.Differences.{entry_changes}
use Rattle.state_changes.proofs.maps.add_entries.Goals as goal

pub returns : goal.returns
returns c =
    let b = c.args.before.now.runs.items in
    let a = c.args.after.now.runs.items in (
      run_lines text_of_target (text_of_label c.args.label) c.in_ok-found.found.runs,
      record {
        runs = c.in_ok-found.found.runs;
        coarsest = c.runs.ensures.coarsest;
        changes =
            λ p. entry_changes b a c.in_ok-old.old.runs c.in_ok-new.new.runs _ p c.in_ok-old.ensures c.in_ok-new.ensures
            (c.in_ok-found.ensures p);
        lines = refl;
      },
      c.in_ok-add_entry_runs.ensures
          ∙ ap
          (λ (rs : List (Run (Change Target))). c.args.text.now.items
          ++ run_lines text_of_target (text_of_label c.args.label) rs) c.runs.ensures.runs,
    )
