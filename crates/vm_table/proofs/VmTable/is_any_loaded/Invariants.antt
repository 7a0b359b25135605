use Rattle.std.proofs.Common.{◌≡◌, ℕ, ◌<◌, false, is_some}
use Rattle.vm_table.specs.View.{vms_of}
use Rattle.vm_table.proofs.VmTable.is_any_loaded.Given as goal

abbrev pub invariant-loop-vcpu : goal.invariant-loop-vcpu
invariant-loop-vcpu l = (j : ℕ) → j < l.vcpu → is_some (((vms_of l.self).slot l.slot).loaded j) ≡ false
