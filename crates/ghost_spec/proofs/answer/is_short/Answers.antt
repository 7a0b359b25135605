use Rattle.std.proofs.Common.{sym, ◌∙◌}
use Rattle.reference_model.specs.model.Step.{is_short}
use Rattle.ghost_spec.proofs.answer.is_short.Goals as goal

pub returns-then-is_shared_short : goal.returns-then-is_shared_short
unfolding is_short
returns-then-is_shared_short c =
    rw (sym c.in_ok-is_shared_short.ensures ∙ c.if-is_shared_short.true) c.if-is_shared_short.true

pub returns-else-is_shared_short : goal.returns-else-is_shared_short
unfolding is_short
returns-else-is_shared_short c =
    rw (sym c.in_ok-is_shared_short.ensures ∙ c.if-is_shared_short.false) c.in_ok-is_guest_short.ensures
