use Rattle.std.proofs.Common.{arith, ap, subst}
use Rattle.trace_text.specs.Oracles.{agreed}
use Rattle.trace_text.specs.Replay.{Ends}
use Rattle.trace_text.specs.Reports as reports
use Rattle.trace_text.specs.Session.{RunsLine, Standing}
use Rattle.trace_text.specs.View.{standing_of}
use Rattle.trace_text.proofs.ReplayLemmas.{begun_seen, enough_seen, mapped, replay_enough, when_err, written_seen}
use Rattle.trace_text.proofs.at_end.replay_at_end.Goals as goal

pub play_trace-outcome-requires-clause-enough : goal.play_trace-outcome-requires-clause-enough
play_trace-outcome-requires-clause-enough g c =
    enough_seen (λ r. standing_of r.session) (RunsLine agreed) Ends (replay_enough agreed)

pub play_trace-outcome-requires-clause-ready : goal.play_trace-outcome-requires-clause-ready
play_trace-outcome-requires-clause-ready g c = (
  c.new-unasked.ensures.ready,
  let none = ap (λ (s : Standing). s.steps) c.new-unasked.ensures.start in
      omega (arith, none),
)

pub returns-clause-report : goal.returns-clause-report
returns-clause-report g c =
    mapped c.play_trace-outcome.result _ _
    (λ outcome written. subst
    (λ start. reports.IsWritten (RunsLine agreed) Ends start (g.S.Source.remaining c.args.source.now)
    (g.K.Sink.contents c.args.sink.now)
    (g.K.Sink.contents c.play_trace-outcome.new.sink) outcome) c.new-unasked.ensures.start
    (written_seen (λ r. standing_of r.session) (RunsLine agreed) Ends c.new-unasked.result _ _ _ outcome written))
    c.play_trace-outcome.ensures.report

pub returns-clause-begun : goal.returns-clause-begun
returns-clause-begun g c =
    when_err c.play_trace-outcome.result _ _
    (λ begun. subst
    (λ start. reports.IsWriteBegun (RunsLine agreed) Ends start (g.S.Source.remaining c.args.source.now)
    (g.K.Sink.contents c.args.sink.now)
    (g.K.Sink.contents c.play_trace-outcome.new.sink)) c.new-unasked.ensures.start
    (begun_seen (λ r. standing_of r.session) (RunsLine agreed) Ends c.new-unasked.result _ _ _ begun))
    c.play_trace-outcome.ensures.begun

pub returns-clause-reads : goal.returns-clause-reads
returns-clause-reads g c = c.play_trace-outcome.ensures.reads

pub returns-clause-writes : goal.returns-clause-writes
returns-clause-writes g c = c.play_trace-outcome.ensures.writes
