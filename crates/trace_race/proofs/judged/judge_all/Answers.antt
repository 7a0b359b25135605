use Rattle.std.proofs.Common.{◌+◌, arith, rules, ◌∙◌, ap}
use Rattle.page_state.specs.LayoutView.{layout_of}
use Rattle.ghost_spec.specs.States.{contents_in, ghost_state}
use Rattle.trace_race.proofs.Generations.{judged_to, next_to}
use Rattle.trace_race.proofs.Judging.{leads_last, leads_on}
use Rattle.trace_race.proofs.judged.judge_all.Goals as goal

pub judged_next-requires-clause-generation : goal.judged_next-requires-clause-generation
judged_next-requires-clause-generation c =
    next_to (c.loop-i.i + 1) (contents_in c.loop-i.state) _ _
    (omega (arith, c.loop-i-test.true, c.requires.few)) c.loop-i.invariant.generations

pub loop-i-preserved : goal.loop-i-preserved
loop-i-preserved c = record {
  generations =
      judged_to (c.loop-i.i + 1) _ (ghost_state c.loop-i.state) (ghost_state c.in_ok-after.after) _ _ _ _
      (omega arith) c.in_ok-after.ensures.judged c.loop-i.invariant.generations;
  layout = c.in_ok-after.ensures.layout ∙ c.loop-i.invariant.layout;
  judged =
      leads_on _ _ (ghost_state c.args.state) (ghost_state c.loop-i.state)
      (ghost_state c.in_ok-after.after) c.args.calls.now c.loop-i.found.items _ c.loop-i.i _ _
      (ap layout_of c.loop-i.invariant.layout) c.loop-i-test.true
      (search rules) c.in_ok-after.ensures.judged c.loop-i.invariant.judged;
}

pub returns : goal.returns
returns c =
    record {
      judged = leads_last _ _ (ghost_state c.loop-i.state) c.args.calls.now c.loop-i.found.items c.loop-i.i
          (omega (arith, c.loop-i-test.false)) c.loop-i.invariant.judged;
    }
