use Rattle.std.proofs.Common.{◌∙◌, sym}
use Rattle.page_state.specs.LayoutView.{layout_of}
use Rattle.ghost_spec.specs.States.{ghost_state}
use Rattle.race_outcomes.proofs.Told.{told_made, told_wanting}
use Rattle.race_outcomes.proofs.answer.model_reply.Goals as goal

pub returns-in-Ok-clause-told : goal.returns-in-Ok-clause-told
returns-in-Ok-clause-told c =
    told_wanting (layout_of c.args.state.now.layout) (ghost_state c.args.state.now) c.args.turn c.in_ok-reply.reply
    (ghost_state c.in_ok-reply.after) (ghost_state c.in-Ok.left) c.in_ok-reply.ensures.told
    (sym c.in-Ok-true.ensures.finds ∙ c.in-Ok-true.field-0-test) c.in-Ok.ensures.contents c.in-Ok.ensures.rooms

pub returns-in-Ok-false-clause-told : goal.returns-in-Ok-false-clause-told
returns-in-Ok-false-clause-told c =
    told_made (layout_of c.args.state.now.layout) (ghost_state c.args.state.now) c.args.turn c.in_ok-reply.reply
    (ghost_state c.in_ok-reply.after) c.in_ok-reply.ensures.told
    (sym c.in-Ok-false.ensures.finds ∙ c.in-Ok-false.field-0-test)
