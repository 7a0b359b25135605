use Rattle.std.proofs.Common.{◌≡◌, ℕ, ◌<◌, false}
use Rattle.reference_model.specs.model.State.{vacant}
use Rattle.reference_model.specs.model.VmRules.{stand_eq}
use Rattle.vm_table.specs.View.{vms_of}
use Rattle.vm_table.proofs.VmTable.vacant.Given as goal

abbrev pub invariant-loop-slot : goal.invariant-loop-slot
invariant-loop-slot l = (j : ℕ) → j < l.slot → stand_eq ((vms_of l.self).slot j).stand vacant ≡ false
