use Rattle.std.proofs.Common.{◌≡◌, ◌++◌, map}
use Rattle.trace_lines.specs.declared.response.Response.TheVariants as responses
use Rattle.trace_text.specs.declared.report.ReportLine.TheVariants as report
use Rattle.trace_check.proofs.carrying.report_of_runs.Given as goal

abbrev pub invariant-loop-run : goal.invariant-loop-run
invariant-loop-run l =
    l.told.items ++ map report.Response (map responses.Run l.run-iterator)
    ≡ map report.Response (map responses.Run l.fn.runs)
