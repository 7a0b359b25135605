use Rattle.std.proofs.Common.{◌≡◌, drop, map}
use Rattle.trace_text.proofs.Lined.{Ahead}
use Rattle.trace_text.specs.declared.report.ReportLine.TheVariants as report
use Rattle.trace_race.proofs.telling.report_judged.Given as goal

abbrev pub invariant-loop-i : goal.invariant-loop-i
invariant-loop-i g l =
    record {
      ahead : Ahead (g.K.Sink.contents l.fn.sink) (g.K.Sink.contents l.sink) (map report.Judged l.found)
          (map report.Judged (drop l.i l.found));
      writes : g.K.Sink.failures l.sink ≡ g.K.Sink.failures l.fn.sink;
    }
