use Rattle.std.proofs.Common.{◌≡◌, ◌++◌, drop}
use Rattle.trace_explain.specs.Explained.{report_lines}
use Rattle.trace_explain.proofs.explaining.add_report.Given as goal

abbrev pub invariant-loop-told : goal.invariant-loop-told
invariant-loop-told l =
    l.text.items ++ report_lines l.asked (drop l.told-index l.reported)
    ≡ l.fn.text.items ++ report_lines l.asked l.reported
