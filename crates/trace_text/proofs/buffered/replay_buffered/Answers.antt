use Rattle.std.proofs.Common.{arith, ap, subst}
use Rattle.trace_text.specs.Oracles.{agreed}
use Rattle.trace_text.specs.Replay.{Ends}
use Rattle.trace_text.specs.Reports as reports
use Rattle.trace_text.specs.Session.{RunsLine, Standing}
use Rattle.trace_text.specs.View.{standing_of}
use Rattle.trace_text.proofs.Kept.{with_writer}
use Rattle.trace_text.proofs.ReplayLemmas.{begun_seen, enough_seen, mapped, replay_enough, written_seen}
use Rattle.trace_text.proofs.buffered.replay_buffered.Goals as goal

pub play_buffered-answer-requires-clause-enough : goal.play_buffered-answer-requires-clause-enough
play_buffered-answer-requires-clause-enough g c =
    enough_seen (λ r. standing_of r.session) (RunsLine agreed) Ends (replay_enough agreed)

pub play_buffered-answer-requires-clause-ready : goal.play_buffered-answer-requires-clause-ready
play_buffered-answer-requires-clause-ready g c = (
  c.new-replaying.ensures.ready,
  let none = ap (λ (s : Standing). s.steps) c.new-replaying.ensures.start in
      omega (arith, none),
)

pub returns-clause-report : goal.returns-clause-report
returns-clause-report g c =
    mapped c.play_buffered-answer.result _ _
    (λ r written. subst
    (λ start. reports.IsWritten (RunsLine agreed) Ends start (g.R.Read.remaining c.args.reader)
    (g.W.Write.contents c.args.writer) (g.W.Write.contents r.1) r.0) c.new-replaying.ensures.start
    (written_seen (λ r. standing_of r.session) (RunsLine agreed) Ends c.new-replaying.result _ _ _ r.0 written))
    c.play_buffered-answer.ensures.report

pub returns-clause-begun : goal.returns-clause-begun
returns-clause-begun g c =
    with_writer c.play_buffered-answer.result _ _
    (λ w begun. subst
    (λ start. reports.IsWriteBegun (RunsLine agreed) Ends start (g.R.Read.remaining c.args.reader)
    (g.W.Write.contents c.args.writer) (g.W.Write.contents w)) c.new-replaying.ensures.start
    (begun_seen (λ r. standing_of r.session) (RunsLine agreed) Ends c.new-replaying.result _ _ _ begun))
    c.play_buffered-answer.ensures.begun
