use Rattle.page_state.proofs.Common.{same4}
use Rattle.reference_model.specs.model.State.{Vms, Shared, Guest, Cpu}
use Rattle.reference_model.specs.model.Step.{changed}
use Rattle.reference_model.specs.model.Used.{Used}
use Rattle.ghost_spec.proofs.answer.change.Goals as goal

make : Vms → Shared → Guest → Cpu → Used
make v s g k = record { vms = v; shared = s; guest = g; cpu = k }

pub returns-clause-used : goal.returns-clause-used
unfolding changed make
returns-clause-used c =
    same4 make c.in_ok-change.ensures.after c.in_ok-change-2.ensures.after c.in_ok-change-3.ensures.after
    c.changed-used.ensures
