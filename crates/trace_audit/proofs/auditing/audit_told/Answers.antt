use Rattle.std.proofs.Common.{arith, ap, subst}
use Rattle.trace_text.specs.Reports as reports
use Rattle.trace_audit.specs.Audited.{Audited, EndsTold, RunsLine}
use Rattle.trace_audit.proofs.Seen.{seen_of}
use Rattle.trace_audit.proofs.Enough.{audit_enough}
use Rattle.trace_text.proofs.ReplayLemmas.{begun_seen, enough_seen, mapped, when_err, written_seen}
use Rattle.trace_audit.proofs.auditing.audit_told.Goals as goal

pub play_trace-outcome-requires-clause-enough : goal.play_trace-outcome-requires-clause-enough
play_trace-outcome-requires-clause-enough g c = enough_seen seen_of (RunsLine {A = g.row.A.Denot}) EndsTold audit_enough

pub play_trace-outcome-requires-clause-ready : goal.play_trace-outcome-requires-clause-ready
play_trace-outcome-requires-clause-ready g c = (
  c.new-legal.ensures.ready,
  let none =
      ap (λ (a : Audited g.row.A.Denot). a.session.steps) c.new-legal.ensures.start in
      omega (arith, none),
)

pub returns-clause-report : goal.returns-clause-report
returns-clause-report g c =
    mapped c.play_trace-outcome.result _ _
    (λ outcome written. subst
    (λ start. reports.IsWritten (RunsLine {A = g.row.A.Denot}) EndsTold start (g.S.Source.remaining c.args.source.now)
    (g.K.Sink.contents c.args.sink.now)
    (g.K.Sink.contents c.play_trace-outcome.new.sink) outcome) c.new-legal.ensures.start
    (written_seen seen_of (RunsLine {A = g.row.A.Denot}) EndsTold c.new-legal.result _ _ _ outcome written))
    c.play_trace-outcome.ensures.report

pub returns-clause-begun : goal.returns-clause-begun
returns-clause-begun g c =
    when_err c.play_trace-outcome.result _ _
    (λ begun. subst
    (λ start. reports.IsWriteBegun (RunsLine {A = g.row.A.Denot}) EndsTold start
    (g.S.Source.remaining c.args.source.now) (g.K.Sink.contents c.args.sink.now)
    (g.K.Sink.contents c.play_trace-outcome.new.sink)) c.new-legal.ensures.start
    (begun_seen seen_of (RunsLine {A = g.row.A.Denot}) EndsTold c.new-legal.result _ _ _ begun))
    c.play_trace-outcome.ensures.begun

pub returns-clause-reads : goal.returns-clause-reads
returns-clause-reads g c = c.play_trace-outcome.ensures.reads

pub returns-clause-writes : goal.returns-clause-writes
returns-clause-writes g c = c.play_trace-outcome.ensures.writes
