-- Worked rows of the calls on the VM part.
use Rattle.std.specs.Prelude.{◌≡◌, ◌==◌, [], ◌∷◌, Some, None, if◌then◌else◌}
use Rattle.reference_model.specs.declared.changes.Stage.TheVariants.{Booked, Closing}
use Rattle.call_table.specs.declared.reply.Refusal.TheVariants.{Perm, NoVm, Busy, Invalid}
use Rattle.call_table.specs.declared.reply.Reply.TheVariants.{Done}
use Rattle.call_table.specs.declared.reply.Value.TheVariants.{Vm}
use Rattle.call_table.specs.declared.step.Step.TheVariants.{VmReserve, VmOpen, VcpuLoad, VcpuPut, Teardown, VmRelease}
use Rattle.call_table.specs.declared.step.VmKind.TheVariants.{Protected, Plain as PlainVm}
use Rattle.reference_model.specs.model.State.{reserved, opened, closing, no_slot, no_cpu}
use Rattle.reference_model.specs.model.Step.{predict_step}
use Rattle.reference_model.specs.rows.Scene.{small, ok, range, vm, at, Refuses, SlotsAlone}
use Rattle.reference_model.specs.rows.SceneState.{scene, held_slot, open_slot, loading, ticketed, with_slots}

-- the lowest Empty slot is reserved, with the kind and number of vCPUs that are asked for; the CPU
-- has its ticket, and the reply is its name
abbrev pub VmReserveMade : Type 0
VmReserveMade =
    let r = predict_step (small 1) scene 2 (VmReserve Protected 3) in
    (r.0 ≡ Done (Vm (vm 12 6)))
    × SlotsAlone scene r.1
    × (r.1.contents.vms.slot 12
    ≡ record (no_slot 6) { stand = reserved; kind = Protected; vcpus = 3 })
    × (at r.1.contents.vms.slot (11 ∷ 13 ∷ []) ≡ held_slot reserved 1 ∷ no_slot 1 ∷ [])
    × (r.1.contents.cpu 2 ≡ ticketed 12 6 Booked)

-- one to eight vCPUs, and either kind; a CPU that has something loaded may reserve; the last slot
-- is one too
abbrev pub VmReservePlain : Type 0
VmReservePlain =
    let r = predict_step (small 1) scene 1 (VmReserve PlainVm 8) in
    let q =
    predict_step (small 1)
    (with_slots (λ v. if v == 63 then no_slot 2 else open_slot 1 PlainVm []) scene) 2
    (VmReserve PlainVm 1) in
    (r.0 ≡ Done (Vm (vm 12 6)))
    × (r.1.contents.vms.slot 12
    ≡ record (no_slot 6) { stand = reserved; kind = PlainVm; vcpus = 8 })
    × (r.1.contents.cpu 1
    ≡ record (loading 4 2 0)
    { ticket = Some (record { vm = vm 12 6; kind = PlainVm; stage = Booked }) })
    × (q.0 ≡ Done (Vm (vm 63 2)))

-- it is refused: no vCPU or over eight, though the CPU has a ticket; a ticket; no Empty slot among
-- the 64
abbrev pub VmReserveRefused : Type 0
VmReserveRefused =
    Refuses (small 1) scene 2 (VmReserve Protected 0) Invalid
    × Refuses (small 1) scene 2 (VmReserve Protected 9) Invalid
    × Refuses (small 1) scene 4 (VmReserve Protected 9) Invalid
    × Refuses (small 1) scene 4 (VmReserve Protected 3) Busy
    × Refuses (small 1)
    (with_slots (λ v. if v == 64 then no_slot 2 else open_slot 1 PlainVm []) scene) 2
    (VmReserve Protected 3) Busy

-- an installed VM's slot is Open, its ticket is given up, and the reply is its name
abbrev pub VmOpenMade : Type 0
VmOpenMade =
    let r = predict_step (small 1) scene 7 VmOpen in
    (r.0 ≡ Done (Vm (vm 9 1)))
    × SlotsAlone scene r.1
    × (r.1.contents.vms.slot 9 ≡ record (held_slot reserved 1) { stand = opened })
    × (at r.1.contents.vms.slot (8 ∷ 10 ∷ []) ≡ held_slot closing 1 ∷ held_slot closing 1 ∷ [])
    × (r.1.contents.cpu 7 ≡ no_cpu)

-- it is refused: no ticket, or one that isn't Installed
abbrev pub VmOpenRefused : Type 0
VmOpenRefused =
    Refuses (small 1) scene 2 VmOpen NoVm
    × Refuses (small 1) scene 4 VmOpen NoVm
    × Refuses (small 1) scene 5 VmOpen NoVm
    × Refuses (small 1) scene 6 VmOpen NoVm
    × Refuses (small 1) scene 8 VmOpen NoVm

-- the CPU loads a vCPU: the CPU and the slot name each other; the slot's other vCPUs stay
abbrev pub VcpuLoadMade : Type 0
VcpuLoadMade =
    let r = predict_step (small 1) scene 2 (VcpuLoad (vm 4 2) 2) in
    (r.0 ≡ ok)
    × SlotsAlone scene r.1
    × (at (r.1.contents.vms.slot 4).loaded (0 ∷ 1 ∷ 2 ∷ 3 ∷ [])
    ≡ Some 1 ∷ None ∷ Some 2 ∷ Some 9 ∷ [])
    × ((r.1.contents.vms.slot 4).stand ≡ opened)
    × (r.1.contents.vms.slot 3 ≡ scene.contents.vms.slot 3) × (r.1.contents.cpu 2 ≡ loading 4 2 2)

-- it is refused: no such slot or vCPU, though the slot isn't Open; a slot that isn't Open, or
-- another generation, though the CPU has one loaded; a CPU that has one loaded, though the vCPU is
-- past the VM's number; a vCPU that is loaded; one past the VM's number
abbrev pub VcpuLoadRefused : Type 0
VcpuLoadRefused =
    Refuses (small 1) scene 2 (VcpuLoad (vm 64 1) 0) Invalid
    × Refuses (small 1) scene 2 (VcpuLoad (vm 5 3) 8) Invalid
    × Refuses (small 1) scene 2 (VcpuLoad (vm 5 3) 0) NoVm
    × Refuses (small 1) scene 2 (VcpuLoad (vm 6 9) 0) NoVm
    × Refuses (small 1) scene 0 (VcpuLoad (vm 2 5) 0) NoVm
    × Refuses (small 1) scene 2 (VcpuLoad (vm 2 3) 0) NoVm
    × Refuses (small 1) scene 0 (VcpuLoad (vm 2 4) 0) Busy
    × Refuses (small 1) scene 2 (VcpuLoad (vm 4 2) 0) Busy
    × Refuses (small 1) scene 0 (VcpuLoad (vm 2 4) 4) Busy
    × Refuses (small 1) scene 2 (VcpuLoad (vm 2 4) 4) Perm
    × Refuses (small 1) scene 2 (VcpuLoad (vm 2 4) 7) Perm

-- the CPU's vCPU isn't loaded any more, and its slot's others stay
abbrev pub VcpuPutMade : Type 0
VcpuPutMade =
    let r = predict_step (small 1) scene 9 VcpuPut in
    (r.0 ≡ ok)
    × SlotsAlone scene r.1
    × (at (r.1.contents.vms.slot 4).loaded (0 ∷ 1 ∷ 2 ∷ 3 ∷ [])
    ≡ Some 1 ∷ None ∷ None ∷ None ∷ [])
    × ((r.1.contents.vms.slot 3).loaded 1 ≡ Some 0)
    × (r.1.contents.cpu 9 ≡ no_cpu)

-- it is refused if none is loaded
abbrev pub VcpuPutRefused : Type 0
VcpuPutRefused = Refuses (small 1) scene 2 VcpuPut NoVm × Refuses (small 1) scene 7 VcpuPut NoVm

-- an Open slot of which nothing is loaded is Closing, and the CPU has a ticket with its name and
-- kind
abbrev pub TeardownMade : Type 0
TeardownMade =
    let r = predict_step (small 1) scene 3 (Teardown (vm 0 1)) in
    let q = predict_step (small 1) scene 1 (Teardown (vm 2 4)) in
    (r.0 ≡ ok)
    × SlotsAlone scene r.1
    × (r.1.contents.vms.slot 0 ≡ record (open_slot 1 Protected []) { stand = closing })
    × (r.1.contents.vms.slot 1 ≡ scene.contents.vms.slot 1)
    × (r.1.contents.cpu 3 ≡ record (ticketed 0 1 Closing) { hand = Some (range 0x1004 2) })
    × (q.0 ≡ ok) × (q.1.contents.vms.slot 2 ≡ record (open_slot 4 PlainVm []) { stand = closing })
    × (q.1.contents.cpu 1
    ≡ record (loading 4 2 0)
    { ticket = Some (record { vm = vm 2 4; kind = PlainVm; stage = Closing }) })

-- it is refused: no such slot; a slot that isn't Open, or another generation, though the CPU has a
-- ticket; a CPU with a ticket; a VM whose first or last vCPU is loaded
abbrev pub TeardownRefused : Type 0
TeardownRefused =
    Refuses (small 1) scene 2 (Teardown (vm 64 1)) Invalid
    × Refuses (small 1) scene 4 (Teardown (vm 2 3)) NoVm
    × Refuses (small 1) scene 2 (Teardown (vm 2 5)) NoVm
    × Refuses (small 1) scene 2 (Teardown (vm 5 3)) NoVm
    × Refuses (small 1) scene 2 (Teardown (vm 6 9)) NoVm
    × Refuses (small 1) scene 4 (Teardown (vm 2 4)) Busy
    × Refuses (small 1) scene 2 (Teardown (vm 4 2)) Busy
    × Refuses (small 1) scene 1 (Teardown (vm 4 2)) Busy
    × Refuses (small 1) scene 2 (Teardown (vm 1 1)) Busy

-- a slot of a Booked or Finished ticket is Empty with the next generation, and the ticket is given
-- up; the CPU's hand stays
abbrev pub VmReleaseMade : Type 0
VmReleaseMade =
    let r = predict_step (small 1) scene 4 VmRelease in
    let q = predict_step (small 1) scene 8 VmRelease in
    (r.0 ≡ ok)
    × SlotsAlone scene r.1
    × (r.1.contents.vms.slot 6 ≡ no_slot 10)
    × (at r.1.contents.vms.slot (5 ∷ 7 ∷ []) ≡ held_slot closing 3 ∷ held_slot closing 1 ∷ [])
    × (r.1.contents.cpu 4 ≡ record no_cpu { hand = Some (range 0x1730 3) })
    × (q.0 ≡ ok)
    × (q.1.contents.vms.slot 10 ≡ no_slot 2)
    × (q.1.contents.cpu 8 ≡ no_cpu)

-- it is refused: no ticket, or one that is Installed, Closing or Dying
abbrev pub VmReleaseRefused : Type 0
VmReleaseRefused =
    Refuses (small 1) scene 2 VmRelease NoVm
    × Refuses (small 1) scene 5 VmRelease NoVm
    × Refuses (small 1) scene 6 VmRelease NoVm
    × Refuses (small 1) scene 7 VmRelease NoVm
