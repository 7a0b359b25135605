-- Worked rows of the calls that can be refused for lack of memory, and of the number of a call.
use Rattle.std.specs.Prelude.{◌≡◌, true, false}
use Rattle.descriptor.specs.declared.Prot.TheVariants.{RW}
use Rattle.call_table.specs.declared.step.Step.TheVariants.{ShareHyp, UnshareHyp, DonateHyp, HypDonateHost, HostAbort, HostTranslate, HypTranslate, OwnerOf, Fund, Unfund, ShareGuest, UnshareGuest, DonateGuest, GuestShareHost, GuestUnshareHost, Install, Topup, ReclaimPage, ReclaimPool, FinishGuest, GuestRelax, GuestTranslate, MarkDying, VmReserve, VmOpen, VcpuLoad, VcpuPut, Teardown, VmRelease}
use Rattle.call_table.specs.declared.step.VmKind.TheVariants.{Protected}
use Rattle.reference_model.specs.model.Rules.{may_grow}
use Rattle.reference_model.specs.rows.Scene.{vm}

-- the calls that change a tree, a pool or a guest's root can run out of memory
abbrev pub Grows : Type 0
Grows =
    (may_grow (ShareHyp 0) ≡ true)
    × (may_grow (UnshareHyp 0) ≡ true)
    × (may_grow (DonateHyp 0 1) ≡ true)
    × (may_grow (HypDonateHost 0 1) ≡ true)
    × (may_grow (HostAbort 0) ≡ true)
    × (may_grow (Fund 0 1) ≡ true)
    × (may_grow Unfund ≡ true)
    × (may_grow (ShareGuest 0 0 RW 1) ≡ true)
    × (may_grow (UnshareGuest (vm 0 1) 0) ≡ true)
    × (may_grow (DonateGuest 0 0 1) ≡ true)
    × (may_grow (GuestShareHost 0) ≡ true)
    × (may_grow (GuestUnshareHost 0) ≡ true)
    × (may_grow Install ≡ true)
    × (may_grow (Topup (vm 0 1)) ≡ true)
    × (may_grow (ReclaimPage (vm 0 1) 0) ≡ true)
    × (may_grow (ReclaimPool (vm 0 1)) ≡ true)
    × (may_grow FinishGuest ≡ true)
    × (may_grow (GuestRelax 0 RW) ≡ true)

-- the calls that only read, and those that change slots or phases, can't
abbrev pub NeverGrows : Type 0
NeverGrows =
    (may_grow (HostTranslate 0) ≡ false)
    × (may_grow (HypTranslate 0) ≡ false)
    × (may_grow (OwnerOf 0) ≡ false)
    × (may_grow (GuestTranslate (vm 0 1) 0) ≡ false)
    × (may_grow MarkDying ≡ false)
    × (may_grow (VmReserve Protected 1) ≡ false)
    × (may_grow VmOpen ≡ false)
    × (may_grow (VcpuLoad (vm 0 1) 0) ≡ false)
    × (may_grow VcpuPut ≡ false)
    × (may_grow (Teardown (vm 0 1)) ≡ false)
    × (may_grow VmRelease ≡ false)
