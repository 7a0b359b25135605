use Rattle.std.proofs.Common.{◌≡◌, ◌∙◌, sym}
use Rattle.trace_race.proofs.OwnSteps.{is_next, next_others, next_unstored}
use Rattle.page_state.proofs.Common.{eq-made, eq-other}
use Rattle.trace_race.proofs.ordering.next_of.Goals as goal
use Rattle.trace_race.proofs.ordering.next_of.Goals.{else-steps-place-via-then-steps-place+else-is_stored, else-steps-place-via-else-steps-place}

pub returns-then-is_stored-clause-next : goal.returns-then-is_stored-clause-next
returns-then-is_stored-clause-next c =
    is_next c.args.steps.now c.args.replies.now c.args.from c.loop-place.place c.args.cpu _ _ c.requires.count
    c.loop-place-test.true c.loop-place.invariant
    (sym c.is_stored.ensures ∙ c.if-is_stored.true) (eq-made _ _ c.if-steps-place.true)

pub loop-place-preserved : goal.loop-place-preserved
loop-place-preserved c = elim c.else-steps-place.branch [
  | else-steps-place-via-then-steps-place+else-is_stored w ↦
      sym
      (next_unstored c.args.steps.now c.args.replies.now c.requires.count c.loop-place.place c.loop-place-test.true
      c.args.cpu _
      (sym w.is_stored.ensures ∙ w.if-is_stored.false))
      ∙ c.loop-place.invariant
  | else-steps-place-via-else-steps-place w ↦
      sym
      (next_others c.args.steps.now c.args.replies.now c.requires.count c.loop-place.place c.loop-place-test.true
      c.args.cpu _
      (eq-other _ _ w.if-steps-place.false))
      ∙ c.loop-place.invariant
]
