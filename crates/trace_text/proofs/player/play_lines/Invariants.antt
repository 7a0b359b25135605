use Rattle.std.proofs.Common.{◌≡◌}
use Rattle.trace_reader.specs.Ahead.{left}
use Rattle.trace_text.proofs.ReplayLemmas.{SoFar}
use Rattle.trace_text.proofs.player.play_lines.Given as goal

abbrev pub invariant-loop-number : goal.invariant-loop-number
invariant-loop-number g l =
    record {
      so_far : SoFar g.P.Player.does g.P.Player.ends l.fn.player (left l.fn.ahead (g.S.Source.remaining l.fn.source))
          (left l.ahead (g.S.Source.remaining l.source)) (g.K.Sink.contents l.fn.sink)
          (g.K.Sink.contents l.sink) l.number l.player;
      ready : g.P.Player.ready l.number l.player;
      reads : g.S.Source.failures l.source ≡ g.S.Source.failures l.fn.source;
      writes : g.K.Sink.failures l.sink ≡ g.K.Sink.failures l.fn.sink;
    }
