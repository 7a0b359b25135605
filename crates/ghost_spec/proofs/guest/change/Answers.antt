use Rattle.reference_model.specs.model.Step.{guest_after}
use Rattle.ghost_spec.proofs.guest.change.Goals as goal

pub returns-clause-after : goal.returns-clause-after
unfolding guest_after
returns-clause-after c = rw c.in_ok-change_map.ensures.after at c.change_part.ensures.after
