use Rattle.std.proofs.Common.{◌≡◌}
use Rattle.trace_reader.specs.Ahead.{left}
use Rattle.trace_race.specs.Courses.{IsSound, course_in}
use Rattle.trace_race.proofs.Readings.{Goes}
use Rattle.trace_race.proofs.reading.read_lines.Given as goal

abbrev pub invariant-loop-number : goal.invariant-loop-number
invariant-loop-number g l =
    record {
      goes : Goes (left l.fn.ahead (g.S.Source.remaining l.fn.source))
          (left l.ahead (g.S.Source.remaining l.source)) l.number (course_in l.course);
      sound : IsSound (course_in l.course);
      reads : g.S.Source.failures l.source ≡ g.S.Source.failures l.fn.source;
    }
