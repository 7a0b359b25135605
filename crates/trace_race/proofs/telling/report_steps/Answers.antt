use Rattle.std.proofs.Common.{arith, ◌∙◌, ◌∷◌, [], subst}
use Rattle.std.specs.Io.KnownBytes.{Appends}
use Rattle.trace_text.specs.Played.{WritesFront}
use Rattle.trace_text.specs.declared.report.ReportLine.TheVariants as report
use Rattle.trace_text.specs.Texts.{text_of_report}
use Rattle.trace_text.proofs.ReplayLemmas.{on_err}
use Rattle.trace_race.proofs.Lines.{line_begun, line_told, step_next}
use Rattle.trace_race.proofs.telling.report_steps.Goals as goal

pub loop-i-preserved : goal.loop-i-preserved
loop-i-preserved g c = record {
  ahead =
      line_told _ _ _ _ _ _ _
      (step_next c.args.steps.now c.args.replies.now c.loop-i.i _ _ c.loop-i-test.true
      (omega (arith, c.loop-i-test.true, c.requires.count))) c.loop-i.invariant.ahead
      (subst
      (λ r. Appends (g.K.Sink.contents c.loop-i.sink) (g.K.Sink.contents c.tell.new.sink)
      (text_of_report (report.Response r ∷ []))) c.step_line.ensures c.in_ok-tell.ensures.ok);
  writes = c.in_ok-tell.ensures.counted ∙ c.loop-i.invariant.writes;
}

pub returns-in_err-tell-clause-front : goal.returns-in_err-tell-clause-front
returns-in_err-tell-clause-front g c =
    on_err _
    (line_begun _ _ _ _ _ _ _
    (step_next c.args.steps.now c.args.replies.now c.loop-i.i _ _ c.loop-i-test.true
    (omega (arith, c.loop-i-test.true, c.requires.count))) c.loop-i.invariant.ahead
    (subst
    (λ r. WritesFront (report.Response r ∷ []) (g.K.Sink.contents c.loop-i.sink)
    (g.K.Sink.contents c.tell.new.sink)) c.step_line.ensures c.in_err-tell.ensures.front))
