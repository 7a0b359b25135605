-- Worked rows of the parts that each call uses, by the logs that store it, and of full logs.
use Rattle.std.specs.Prelude.{◌≡◌, ℕ, ◌+◌, List, [], ◌∷◌}
use Rattle.descriptor.specs.declared.Prot.TheVariants.{RW}
use Rattle.call_table.specs.declared.reply.Refusal.TheVariants.{NoVm, Invalid, LogFull}
use Rattle.call_table.specs.declared.step.Step.{Step}
use Rattle.call_table.specs.declared.step.Step.TheVariants.{ShareHyp, UnshareHyp, DonateHyp, HypDonateHost, HostAbort, HostTranslate, HypTranslate, OwnerOf, Fund, Unfund, ShareGuest, UnshareGuest, DonateGuest, GuestShareHost, GuestUnshareHost, Install, Topup, ReclaimPage, ReclaimPool, FinishGuest, GuestRelax, GuestTranslate, MarkDying, VmReserve, VmOpen, VcpuLoad, VcpuPut, Teardown, VmRelease}
use Rattle.call_table.specs.declared.step.VmKind.TheVariants.{Protected}
use Rattle.reference_model.specs.model.State.{Rooms, Reference, put_at, all_rooms}
use Rattle.reference_model.specs.model.Step.{predict_step}
use Rattle.reference_model.specs.rows.Scene.{small, ok, vm, Refuses}
use Rattle.reference_model.specs.rows.SceneState.{scene}

-- the rooms of the logs of the VM part, the Shared part, the guest of a slot, the CPU, and the next
-- CPU
abbrev pub rooms : Reference → ℕ → ℕ → List ℕ
rooms s cpu v =
    s.rooms.vms ∷ s.rooms.shared ∷ s.rooms.guest v ∷ s.rooms.cpu cpu ∷ s.rooms.cpu (cpu + 1) ∷ []

-- the rooms of logs after a step in trees of one level, if each log can store 64 calls
abbrev pub rooms_after : ℕ → Step → ℕ → List ℕ
rooms_after cpu step v = rooms (predict_step (small 0) scene cpu step).1 cpu v

-- stored only in the CPU's own log
abbrev pub own_log : List ℕ
own_log = 64 ∷ 64 ∷ 64 ∷ 63 ∷ 64 ∷ []

-- and in the Shared part's
abbrev pub shared_log : List ℕ
shared_log = 64 ∷ 63 ∷ 64 ∷ 63 ∷ 64 ∷ []

-- and in the Shared part's and the guest's
abbrev pub both_logs : List ℕ
both_logs = 64 ∷ 63 ∷ 63 ∷ 63 ∷ 64 ∷ []

-- and in the guest's
abbrev pub guest_log : List ℕ
guest_log = 64 ∷ 64 ∷ 63 ∷ 63 ∷ 64 ∷ []

-- and in the VM part's
abbrev pub vms_log : List ℕ
vms_log = 63 ∷ 64 ∷ 64 ∷ 63 ∷ 64 ∷ []

-- the calls of the Shared part use it alone, whatever they answer
abbrev pub SharedUses : Type 0
SharedUses =
    (rooms_after 2 (ShareHyp 0x1401) 0 ≡ shared_log)
    × (rooms_after 2 (UnshareHyp 0x1001) 0 ≡ shared_log)
    × (rooms_after 2 (DonateHyp 0x1410 3) 0 ≡ shared_log)
    × (rooms_after 2 (HypDonateHost 0x1002 2) 0 ≡ shared_log)
    × (rooms_after 2 (HostAbort 0x1001) 0 ≡ shared_log)
    × (rooms_after 2 (HostTranslate 0) 0 ≡ shared_log)
    × (rooms_after 2 (HypTranslate 0) 0 ≡ shared_log)
    × (rooms_after 2 (OwnerOf 0x1000) 0 ≡ shared_log)
    × (rooms_after 2 (Fund 0x1410 3) 0 ≡ shared_log)
    × (rooms_after 2 Unfund 0 ≡ shared_log)
    × (rooms_after 2 (ShareHyp 0x900) 0 ≡ shared_log)
    × (rooms_after 0 (ShareHyp 0x1401) 3 ≡ shared_log)

-- the calls of a guest and the Shared part use both: the guest that the CPU has loaded, that the
-- call names, or that the CPU's ticket names
abbrev pub GuestUses : Type 0
GuestUses =
    (rooms_after 1 (ShareGuest 0x1401 17 RW 1) 4 ≡ both_logs)
    × (rooms_after 2 (UnshareGuest (vm 4 2) 16) 4 ≡ both_logs)
    × (rooms_after 0 (DonateGuest 0x1401 9 1) 3 ≡ both_logs)
    × (rooms_after 0 (GuestShareHost 7) 3 ≡ both_logs)
    × (rooms_after 0 (GuestUnshareHost 8) 3 ≡ both_logs)
    × (rooms_after 4 Install 6 ≡ both_logs)
    × (rooms_after 3 (Topup (vm 3 5)) 3 ≡ both_logs)
    × (rooms_after 2 (ReclaimPage (vm 5 3) 1) 5 ≡ both_logs)
    × (rooms_after 2 (ReclaimPool (vm 5 3)) 5 ≡ both_logs)
    × (rooms_after 6 FinishGuest 8 ≡ both_logs)
    × (rooms_after 2 (Topup (vm 63 1)) 63 ≡ both_logs)
    × (rooms_after 0 (Topup (vm 4 2)) 3 ≡ shared_log)

-- the calls of a guest alone use it alone
abbrev pub GuestAloneUses : Type 0
GuestAloneUses =
    (rooms_after 1 (GuestRelax 16 RW) 4 ≡ guest_log)
    × (rooms_after 2 (GuestTranslate (vm 3 5) 8) 3 ≡ guest_log)
    × (rooms_after 5 MarkDying 7 ≡ guest_log)
    × (rooms_after 0 (GuestTranslate (vm 4 2) 8) 3 ≡ own_log)

-- the calls of the VM part use it alone
abbrev pub VmsUses : Type 0
VmsUses =
    (rooms_after 2 (VmReserve Protected 3) 12 ≡ vms_log)
    × (rooms_after 7 VmOpen 9 ≡ vms_log)
    × (rooms_after 2 (VcpuLoad (vm 2 4) 0) 2 ≡ vms_log)
    × (rooms_after 0 VcpuPut 3 ≡ vms_log)
    × (rooms_after 2 (Teardown (vm 0 1)) 0 ≡ vms_log)
    × (rooms_after 4 VmRelease 6 ≡ vms_log)
    × (rooms_after 2 (VcpuLoad (vm 63 1) 8) 63 ≡ vms_log)
    × (rooms_after 2 (Teardown (vm 63 1)) 63 ≡ vms_log)

-- a call that lacks its slot uses no part: nothing loaded, no ticket of the stage, or a slot of 64
abbrev pub NoneUsed : Type 0
NoneUsed =
    (rooms_after 2 (ShareGuest 0x1401 17 RW 1) 0 ≡ own_log)
    × (rooms_after 2 (DonateGuest 0x1401 9 1) 0 ≡ own_log)
    × (rooms_after 2 (GuestShareHost 7) 0 ≡ own_log)
    × (rooms_after 2 (GuestUnshareHost 8) 0 ≡ own_log)
    × (rooms_after 2 (GuestRelax 16 RW) 0 ≡ own_log)
    × (rooms_after 7 Install 9 ≡ own_log)
    × (rooms_after 5 FinishGuest 7 ≡ own_log)
    × (rooms_after 6 MarkDying 8 ≡ own_log)
    × (rooms_after 2 (UnshareGuest (vm 64 1) 16) 64 ≡ own_log)
    × (rooms_after 2 (Topup (vm 64 1)) 64 ≡ own_log)
    × (rooms_after 2 (ReclaimPage (vm 64 1) 1) 64 ≡ own_log)
    × (rooms_after 2 (ReclaimPool (vm 64 1)) 64 ≡ own_log)
    × (rooms_after 2 (GuestTranslate (vm 64 1) 8) 64 ≡ own_log)
    × (rooms_after 2 (VcpuLoad (vm 64 1) 0) 64 ≡ own_log)
    × (rooms_after 2 (Teardown (vm 64 1)) 64 ≡ own_log)

-- the scene with these rooms
abbrev pub with_rooms : Rooms → Reference
with_rooms rooms = record scene { rooms = rooms }

-- a full log of the CPU is reported before any other test, and no room changes
abbrev pub OwnLogFull : Type 0
OwnLogFull =
    let s = with_rooms (record (all_rooms 64) { cpu = put_at (λ c. 64) 2 0 }) in
    Refuses (small 1) s 2 (ShareHyp 0x900) LogFull
    × Refuses (small 1) s 2 (Topup (vm 64 1)) LogFull
    × Refuses (small 1) s 2 MarkDying LogFull
    × Refuses (small 1) s 2 VcpuPut LogFull
    × (rooms (predict_step (small 1) s 2 (ShareHyp 0x900)).1 2 0 ≡ 64 ∷ 64 ∷ 64 ∷ 0 ∷ 64 ∷ [])
    × ((predict_step (small 1) s 3 (ShareHyp 0x1401)).0 ≡ ok)

-- a full log of the Shared part stops the calls that use it, with a guest too, and no others
abbrev pub SharedLogFull : Type 0
SharedLogFull =
    let s = with_rooms (record (all_rooms 64) { shared = 0 }) in
    Refuses (small 1) s 2 (ShareHyp 0x900) LogFull
    × Refuses (small 1) s 0 (GuestShareHost 7) LogFull
    × (rooms (predict_step (small 1) s 0 (GuestShareHost 7)).1 0 3 ≡ 64 ∷ 0 ∷ 64 ∷ 64 ∷ 64 ∷ [])
    × Refuses (small 1) s 2 (GuestShareHost 7) NoVm
    × ((predict_step (small 1) s 1 (GuestRelax 16 RW)).0 ≡ ok)
    × ((predict_step (small 1) s 1 VcpuPut).0 ≡ ok)

-- a full log of a guest stops the calls that use it, alone or with the Shared part, and no others
abbrev pub GuestLogFull : Type 0
GuestLogFull =
    let s = with_rooms (record (all_rooms 64) { guest = put_at (λ v. 64) 3 0 }) in
    Refuses (small 1) s 0 (GuestShareHost 7) LogFull
    × Refuses (small 1) s 2 (GuestTranslate (vm 3 5) 0x40000) LogFull
    × (rooms (predict_step (small 1) s 0 (GuestShareHost 7)).1 0 3 ≡ 64 ∷ 64 ∷ 0 ∷ 64 ∷ 64 ∷ [])
    × ((predict_step (small 1) s 1 (ShareGuest 0x1000 17 RW 1)).0 ≡ ok)
    × ((predict_step (small 1) s 0 (ShareHyp 0x1401)).0 ≡ ok)
    × ((predict_step (small 1) s 0 VcpuPut).0 ≡ ok)

-- a full log of the VM part stops the calls that use it, and no others
abbrev pub VmsLogFull : Type 0
VmsLogFull =
    let s = with_rooms (record (all_rooms 64) { vms = 0 }) in
    Refuses (small 1) s 2 (VmReserve Protected 9) LogFull
    × Refuses (small 1) s 2 (Teardown (vm 63 1)) LogFull
    × (rooms (predict_step (small 1) s 2 VcpuPut).1 2 0 ≡ 0 ∷ 64 ∷ 64 ∷ 64 ∷ 64 ∷ [])
    × Refuses (small 1) s 2 (VcpuLoad (vm 64 1) 0) Invalid
    × Refuses (small 1) s 2 (Teardown (vm 64 1)) Invalid
    × ((predict_step (small 1) s 0 (GuestShareHost 7)).0 ≡ ok)
