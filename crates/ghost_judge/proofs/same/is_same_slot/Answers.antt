use Rattle.std.proofs.Common.{ap}
use Rattle.reference_model.specs.model.State.{Slot}
use Rattle.ghost_spec.specs.States.{slot_in}
use Rattle.ghost_judge.specs.inner.Same.{unloaded}
use Rattle.ghost_judge.proofs.Judged.{slot_same, not_both}
use Rattle.ghost_judge.proofs.same.is_same_slot.Goals as goal

pub returns-then-is_same_unloaded : goal.returns-then-is_same_unloaded
returns-then-is_same_unloaded c = (
  λ t. slot_same (slot_in c.args.a.now) (slot_in c.args.b.now)
      (c.is_same_unloaded.ensures.0 c.if-is_same_unloaded.true) (c.has_same_loads.ensures.0 t),
  λ e. c.has_same_loads.ensures.1 (ap (λ (s : Slot). s.loaded) e),
)

pub returns-else-is_same_unloaded : goal.returns-else-is_same_unloaded
returns-else-is_same_unloaded c = (
  λ t. absurd (not_both c.is_same_unloaded.result t c.if-is_same_unloaded.false),
  λ e. c.is_same_unloaded.ensures.1 (ap unloaded e),
)
