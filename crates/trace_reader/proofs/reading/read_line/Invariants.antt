use Rattle.std.proofs.Common.{◌≡◌, ◌≤◌, length}
use Rattle.std.specs.Io.KnownBytes.{Consumes}
use Rattle.trace_reader.specs.Ahead.{left}
use Rattle.trace_reader.specs.Reading.{HasNoEnd}
use Rattle.trace_reader.proofs.reading.read_line.Given as goal

abbrev pub invariant-loop : goal.invariant-loop
invariant-loop g l =
    record {
      bytes : Consumes (left l.fn.ahead (g.S.Source.remaining l.fn.source))
          (left l.ahead (g.S.Source.remaining l.source)) l.line.items;
      plain : HasNoEnd l.line.items;
      fits : length l.line.items ≤ 256;
      grows : l.counter ≤ length l.line.items;
      counted : g.S.Source.failures l.source ≡ g.S.Source.failures l.fn.source;
    }
