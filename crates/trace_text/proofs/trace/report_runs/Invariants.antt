use Rattle.std.proofs.Common.{◌≡◌}
use Rattle.trace_text.proofs.Lined.{Ahead, shown}
use Rattle.trace_text.proofs.trace.report_runs.Given as goal

abbrev pub invariant-loop-run : goal.invariant-loop-run
invariant-loop-run g l =
    record {
      ahead : Ahead (g.K.Sink.contents l.fn.sink) (g.K.Sink.contents l.sink) (shown l.fn.runs) (shown l.run-iterator);
      writes : g.K.Sink.failures l.sink ≡ g.K.Sink.failures l.fn.sink;
    }
