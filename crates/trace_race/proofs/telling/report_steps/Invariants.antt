use Rattle.std.proofs.Common.{◌≡◌, drop}
use Rattle.trace_text.proofs.Lined.{Ahead}
use Rattle.trace_race.specs.Raced.{step_lines}
use Rattle.trace_race.proofs.telling.report_steps.Given as goal

abbrev pub invariant-loop-i : goal.invariant-loop-i
invariant-loop-i g l =
    record {
      ahead : Ahead (g.K.Sink.contents l.fn.sink) (g.K.Sink.contents l.sink) (step_lines l.steps l.replies)
          (step_lines (drop l.i l.steps) (drop l.i l.replies));
      writes : g.K.Sink.failures l.sink ≡ g.K.Sink.failures l.fn.sink;
    }
