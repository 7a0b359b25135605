use Rattle.std.proofs.Common.{arith, ◌+◌, subst, sym, drop, map, None}
use Rattle.trace_audit.specs.Audited.{nothing_audited}
use Rattle.trace_audit.specs.View.{audited_of}
use Rattle.trace_check.proofs.Going.{told_pushed}
use Rattle.trace_cases.specs.Audits.{Runs}
use Rattle.trace_cases.proofs.Going.{Goes, step_end, step_next, step_past}
use Rattle.trace_cases.proofs.audited.carry_to_end.Goals as goal

pub returns-then-number-gt-MOST_LINES : goal.returns-then-number-gt-MOST_LINES
returns-then-number-gt-MOST_LINES g c =
    subst (λ ts. Runs {A = g.row.A.Denot} 1 nothing_audited (map (λ line. line.now) c.args.lines.now) ts None)
    (sym (told_pushed (λ reported. reported.items) _ _ _ _ c.in_ok-push.ensures.items c.in_ok-report_of_fault.ensures))
    (step_past (λ line. line.now) c.args.lines.now c.loop-place.place _ _ c.loop-place-test.true
    (omega arith) c.loop-place.invariant.goes)

pub loop-place-preserved : goal.loop-place-preserved
loop-place-preserved g c = record {
  goes =
      subst
      (Goes (map (λ line. line.now) c.args.lines.now) (c.loop-place.place + 1 + 1) (audited_of c.run.new.self)
      (map (λ line. line.now) (drop (c.loop-place.place + 1) c.args.lines.now)))
      (sym
      (told_pushed
      (λ reported. reported.items) _ _ _ _ c.in_ok-push-in-Ok.ensures.items c.in_ok-lines_of_report-in-Ok.ensures))
      (step_next (λ line. line.now) c.args.lines.now c.loop-place.place _ _ _ _ _ c.loop-place-test.true
      (omega arith) c.in-Ok.ensures.done c.loop-place.invariant.goes);
  ready = c.in-Ok.ensures.ready;
  few = omega (arith, c.in-Ok.ensures.steps, c.loop-place.invariant.few);
}

pub returns : goal.returns
returns g c =
    step_end (λ line. line.now) c.args.lines.now c.loop-place.place _ _ _
    (omega arith) c.in_ok-found.ensures.found c.loop-place.invariant.goes
