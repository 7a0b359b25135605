-- VmIds that name no slot.
use Rattle.std.proofs.Common.{◌≡◌, ℕ, false, None, nat_lt}
use Rattle.page_state.proofs.Cases.{by_test}
use Rattle.call_table.specs.declared.step.VmId.{VmId}
use Rattle.reference_model.specs.model.Parts.{slot_of}

-- the slot of a VmId that names none is past the 64
pub no_slot : (vm : VmId) → slot_of vm ≡ None → nat_lt vm.slot 64 ≡ false
no_slot vm h = by_test (nat_lt vm.slot 64) (λ e. let f = rw e at h in cc) (λ e. e)
