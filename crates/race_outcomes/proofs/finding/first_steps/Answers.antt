use Rattle.std.proofs.Common.{◌∙◌}
use Rattle.page_state.specs.LayoutView.{layout_of}
use Rattle.ghost_spec.specs.States.{ghost_state}
use Rattle.race_outcomes.specs.Orders.{IsStepFault}
use Rattle.race_outcomes.proofs.Found.{along_next, passed, step_fault}
use Rattle.race_outcomes.proofs.finding.first_steps.Goals as goal

pub loop-i-preserved : goal.loop-i-preserved
loop-i-preserved c =
    let so = c.loop-i.invariant in
    let is = c.in_ok-state.ensures in
    record {
      layout = is.layout ∙ so.layout;
      told =
          along_next (layout_of c.args.state.layout) (layout_of c.loop-i.state.layout) (ghost_state c.args.state)
          (ghost_state c.loop-i.state) (ghost_state c.in_ok-state.state) c.args.turns.now c.loop-i.i _
          c.loop-i.replies.items c.one_step.new.replies.items is.told.0 c.loop-i-test.true so.layout so.told
          is.told.1 is.told.2;
    }

pub returns-in_err-state-clause-fault : goal.returns-in_err-state-clause-fault
returns-in_err-state-clause-fault c =
    let l = layout_of c.args.state.layout in
    let s = ghost_state c.args.state in
    passed (IsStepFault l s c.args.turns.now) c.from_residual.result _ c.from_residual.ensures.1
    (step_fault l s
    (ghost_state c.loop-i.state) c.args.turns.now c.loop-i.i _ c.loop-i.replies.items _ c.loop-i-test.true
    c.loop-i.invariant.told c.in_err-state.ensures.fault)
