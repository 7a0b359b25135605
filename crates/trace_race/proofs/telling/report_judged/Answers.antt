use Rattle.std.proofs.Common.{◌∙◌}
use Rattle.trace_text.proofs.ReplayLemmas.{on_err}
use Rattle.trace_race.proofs.Lines.{found_next, line_begun, line_told}
use Rattle.trace_race.proofs.telling.report_judged.Goals as goal

pub loop-i-preserved : goal.loop-i-preserved
loop-i-preserved g c = record {
  ahead =
      line_told _ _ _ _ _ _ _
      (found_next c.args.found.now c.loop-i.i _
      c.loop-i-test.true) c.loop-i.invariant.ahead c.in_ok-tell.ensures.ok;
  writes = c.in_ok-tell.ensures.counted ∙ c.loop-i.invariant.writes;
}

pub returns-in_err-tell-clause-front : goal.returns-in_err-tell-clause-front
returns-in_err-tell-clause-front g c =
    on_err _
    (line_begun _ _ _ _ _ _ _
    (found_next c.args.found.now c.loop-i.i _ c.loop-i-test.true) c.loop-i.invariant.ahead
    c.in_err-tell.ensures.front)
