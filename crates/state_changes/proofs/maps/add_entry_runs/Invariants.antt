use Rattle.std.proofs.Common.{◌≡◌, ◌++◌, drop}
use Rattle.state_changes.specs.Changed.{run_lines, text_of_target}
use Rattle.state_changes.specs.Labels.{text_of_label}
use Rattle.state_changes.proofs.maps.add_entry_runs.Given as goal

abbrev pub invariant-loop-run : goal.invariant-loop-run
invariant-loop-run l =
    l.text.items ++ run_lines text_of_target (text_of_label l.label) (drop l.run-index l.runs)
    ≡ l.fn.text.items ++ run_lines text_of_target (text_of_label l.label) l.runs
