use Rattle.std.proofs.Common.{◌≡◌, ℕ, ◌<◌, false}
use Rattle.reference_model.specs.model.State.{vacant}
use Rattle.reference_model.specs.model.VmRules.{stand_eq}
use Rattle.ghost_spec.specs.Used.{vms_in}
use Rattle.ghost_spec.proofs.vm_rules.vacant_slot.Given as goal

abbrev pub invariant-loop-slot : goal.invariant-loop-slot
invariant-loop-slot l = (j : ℕ) → j < l.slot → stand_eq ((vms_in l.vms).slot j).stand vacant ≡ false
