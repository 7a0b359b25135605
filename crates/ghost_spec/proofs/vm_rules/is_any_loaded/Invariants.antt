use Rattle.std.proofs.Common.{◌≡◌, ℕ, ◌<◌, false}
use Rattle.std.specs.Prelude.{is_some}
use Rattle.ghost_spec.specs.States.{slot_in}
use Rattle.ghost_spec.proofs.vm_rules.is_any_loaded.Given as goal

abbrev pub invariant-loop-vcpu : goal.invariant-loop-vcpu
invariant-loop-vcpu l = (j : ℕ) → j < l.vcpu → is_some ((slot_in l.slot).loaded j) ≡ false
