-- What a call names, by what it uses.
use Rattle.std.proofs.Common.{◌≡◌, ℕ, true, false, Option, Some, None, refl}
use Rattle.call_table.specs.declared.step.Step.{Step}
use Rattle.call_table.specs.declared.step.Step.TheVariants.{ShareGuest, UnshareGuest, DonateGuest, GuestShareHost, GuestUnshareHost, Install, Topup, ReclaimPage, ReclaimPool, FinishGuest, GuestRelax, GuestTranslate, MarkDying, VmReserve, VmOpen, VcpuLoad, VcpuPut, Teardown, VmRelease}
use Rattle.reference_model.specs.model.Parts.{guest as just_guest, shared_and_guest, uses_shared, uses_vms}
use Rattle.reference_model.specs.model.Rules.{names, guest_slot}
use Rattle.reference_model.specs.model.State.{Cpu}

-- a call on the VM part uses no other
pub vms_parts : (k : Cpu) (slot : Option ℕ) (step : Step)
    → uses_vms (names step) ≡ true
    → (guest_slot k step ≡ None) × (uses_shared (names step) slot ≡ false)
vms_parts k slot (VmReserve kind vcpus) h = (refl, refl)
vms_parts k slot VmOpen h = (refl, refl)
vms_parts k slot (VcpuLoad vm i) h = (refl, refl)
vms_parts k slot VcpuPut h = (refl, refl)
vms_parts k slot (Teardown vm) h = (refl, refl)
vms_parts k slot VmRelease h = (refl, refl)
vms_parts k slot other h = cc

-- a call that uses a guest and the Shared part names both
pub named_both : (k : Cpu) (v : ℕ) (step : Step)
    → guest_slot k step ≡ Some v
    → uses_shared (names step) (Some v) ≡ true
    → names step ≡ shared_and_guest
named_both k v (ShareGuest f g p n) h u = refl
named_both k v (UnshareGuest vm g) h u = refl
named_both k v (DonateGuest f g n) h u = refl
named_both k v (GuestShareHost g) h u = refl
named_both k v (GuestUnshareHost g) h u = refl
named_both k v Install h u = refl
named_both k v (Topup vm) h u = refl
named_both k v (ReclaimPage vm g) h u = refl
named_both k v (ReclaimPool vm) h u = refl
named_both k v FinishGuest h u = refl
named_both k v other h u = cc

-- and one that doesn't use the Shared part names the guest alone
pub named_alone : (k : Cpu) (v : ℕ) (step : Step)
    → guest_slot k step ≡ Some v
    → uses_shared (names step) (Some v) ≡ false
    → names step ≡ just_guest
named_alone k v (GuestRelax g p) h u = refl
named_alone k v (GuestTranslate vm g) h u = refl
named_alone k v MarkDying h u = refl
named_alone k v other h u = cc
