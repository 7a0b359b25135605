use Rattle.std.proofs.Common.{arith, ap, subst}
use Rattle.trace_text.specs.Reports as reports
use Rattle.trace_text.proofs.Kept.{with_writer}
use Rattle.trace_audit.specs.Audited.{Audited, Ends, RunsLine}
use Rattle.trace_audit.specs.View.{audited_of}
use Rattle.trace_audit.proofs.Enough.{audit_enough}
use Rattle.trace_text.proofs.ReplayLemmas.{begun_seen, enough_seen, mapped, written_seen}
use Rattle.trace_audit.proofs.buffered.found_buffered.Goals as goal

pub play_buffered-answer-requires-clause-enough : goal.play_buffered-answer-requires-clause-enough
play_buffered-answer-requires-clause-enough g c =
    enough_seen audited_of (RunsLine {A = g.row.A.Denot}) Ends audit_enough

pub play_buffered-answer-requires-clause-ready : goal.play_buffered-answer-requires-clause-ready
play_buffered-answer-requires-clause-ready g c = (
  c.new-audit.ensures.ready,
  let none =
      ap (λ (a : Audited g.row.A.Denot). a.session.steps) c.new-audit.ensures.start in
      omega (arith, none),
)

pub returns-clause-report : goal.returns-clause-report
returns-clause-report g c =
    mapped c.play_buffered-answer.result _ _
    (λ r written. subst
    (λ start. reports.IsWritten (RunsLine {A = g.row.A.Denot}) Ends start (g.R.Read.remaining c.args.reader)
    (g.W.Write.contents c.args.writer) (g.W.Write.contents r.1) r.0) c.new-audit.ensures.start
    (written_seen audited_of (RunsLine {A = g.row.A.Denot}) Ends c.new-audit.result _ _ _ r.0 written))
    c.play_buffered-answer.ensures.report

pub returns-clause-begun : goal.returns-clause-begun
returns-clause-begun g c =
    with_writer c.play_buffered-answer.result _ _
    (λ w begun. subst
    (λ start. reports.IsWriteBegun (RunsLine {A = g.row.A.Denot}) Ends start (g.R.Read.remaining c.args.reader)
    (g.W.Write.contents c.args.writer) (g.W.Write.contents w)) c.new-audit.ensures.start
    (begun_seen audited_of (RunsLine {A = g.row.A.Denot}) Ends c.new-audit.result _ _ _ begun))
    c.play_buffered-answer.ensures.begun
