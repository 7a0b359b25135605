use Rattle.std.proofs.Common.{◌≡◌, ◌++◌, drop, codes}
use Rattle.state_changes.specs.Changed.{run_lines, text_of_some_row}
use Rattle.state_changes.proofs.maps.add_row_runs.Given as goal

abbrev pub invariant-loop-run : goal.invariant-loop-run
invariant-loop-run l =
    l.text.items ++ run_lines text_of_some_row (codes "owner") (drop l.run-index l.runs)
    ≡ l.fn.text.items ++ run_lines text_of_some_row (codes "owner") l.runs
