-- Worked rows of whole lists of steps of CPU 0 after the boot: the life of a VM, reply by reply.
use Rattle.std.specs.Prelude.{◌≡◌, ℕ, List, [], ◌∷◌, Some}
use Rattle.descriptor.specs.declared.Prot.TheVariants.{RW, RX, RWX}
use Rattle.descriptor.specs.declared.State.TheVariants.{Owned, SharedBorrowed}
use Rattle.page_state.specs.declared.entry.Entry.TheVariants.{Unmapped}
use Rattle.call_table.specs.declared.reply.Refusal.TheVariants.{Perm, NoVm, Busy, NoPool}
use Rattle.call_table.specs.declared.reply.Reply.{Reply}
use Rattle.call_table.specs.declared.reply.Reply.TheVariants.{Done, Refused}
use Rattle.call_table.specs.declared.reply.Value.TheVariants.{Vm, Frame as FrameOf, Entry as EntryOf, Row as RowOf}
use Rattle.call_table.specs.declared.step.Step.{Step}
use Rattle.call_table.specs.declared.step.Step.TheVariants.{HostTranslate, OwnerOf, Fund, ShareGuest, DonateGuest, GuestShareHost, Install, Topup, ReclaimPage, ReclaimPool, FinishGuest, GuestRelax, MarkDying, VmReserve, VmOpen, VcpuLoad, VcpuPut, Teardown, VmRelease}
use Rattle.call_table.specs.declared.step.VmKind.TheVariants.{Protected, Plain as PlainVm}
use Rattle.page_state.specs.Trees.{frames_from}
use Rattle.reference_model.specs.model.Boot.{boot}
use Rattle.page_state.specs.EntryTests.{leaf}
use Rattle.page_state.specs.Layouts.{Layout}
use Rattle.reference_model.specs.rows.FoundRows.{tiny}
use Rattle.reference_model.specs.rows.OwnerRows.{lent_row}
use Rattle.reference_model.specs.model.State.{Reference, no_cpu, no_guest}
use Rattle.reference_model.specs.model.Step.{predict_step}
use Rattle.reference_model.specs.rows.Scene.{small, ok, vm, at}

-- the replies to a list of steps of CPU 0
abbrev pub replies : Layout → Reference → List Step → List Reply
replies l s [] = []
replies l s (step ∷ steps) = let r = predict_step l s 0 step in r.0 ∷ replies l r.1 steps

-- the state after them
abbrev pub after : Layout → Reference → List Step → Reference
after l s [] = s
after l s (step ∷ steps) = after l (predict_step l s 0 step).1 steps

-- the reply with a frame
abbrev pub frame : ℕ → Reply
frame f = Done (FrameOf (record { 0 = f }))

-- a protected VM is made, gets a page and shares it with the host
abbrev pub begin_life : List Step
begin_life =
    VmReserve Protected 1 ∷ Fund 0x140 4 ∷ Install ∷ VmOpen ∷ VcpuLoad (vm 0 1) 0
    ∷ DonateGuest 0x110 0x80 1 ∷ GuestShareHost 0x80 ∷ []

-- and is ended
abbrev pub end_life : List Step
end_life =
    VcpuPut ∷ Teardown (vm 0 1) ∷ MarkDying ∷ FinishGuest ∷ ReclaimPage (vm 0 1) 0x80 ∷ FinishGuest
    ∷ ReclaimPool (vm 0 1) ∷ ReclaimPool (vm 0 1) ∷ ReclaimPool (vm 0 1) ∷ ReclaimPool (vm 0 1)
    ∷ FinishGuest ∷ VmRelease ∷ []

-- in trees of one level: each step of the making is Ok, and the frame that the guest shares is its
-- own and lent to the host; a loaded VM isn't torn down
abbrev pub LifeBegins : Type 0
LifeBegins =
    (replies tiny (boot tiny) begin_life
    ≡ Done (Vm (vm 0 1)) ∷ ok ∷ ok ∷ Done (Vm (vm 0 1)) ∷ ok ∷ ok ∷ ok ∷ [])
    × (replies tiny (after tiny (boot tiny) begin_life) (OwnerOf 0x110 ∷ Teardown (vm 0 1) ∷ [])
    ≡ Done (RowOf (lent_row 2 0 0x110)) ∷ Refused Busy ∷ [])

-- and of the ending: a guest isn't finished before its page and its pool's frames came back, lowest
-- frame first; after it the slot has its next generation
abbrev pub LifeEnds : Type 0
LifeEnds =
    let s = after tiny (boot tiny) begin_life in
    let t = after tiny s end_life in
    (replies tiny s end_life
    ≡ ok ∷ ok ∷ ok ∷ Refused Perm ∷ ok ∷ Refused Perm ∷ frame 0x141 ∷ frame 0x142 ∷ frame 0x143
    ∷ Refused Perm ∷ ok ∷ ok ∷ [])
    × (replies tiny t (VcpuLoad (vm 0 1) 0 ∷ VmReserve PlainVm 8 ∷ [])
    ≡ Refused NoVm ∷ Done (Vm (vm 0 2)) ∷ [])
    × (at t.contents.shared.host.map (0x110 ∷ 0x140 ∷ 0x141 ∷ [])
    ≡ leaf RWX 0x110 Owned ∷ Unmapped ∷ Unmapped ∷ [])
    × (t.contents.guest 0 ≡ no_guest)
    × (t.contents.cpu 0 ≡ no_cpu)
    × (t.contents.shared.free ≡ frames_from 0x1e2 14)

-- in trees of two levels: a protected VM gets a page in a table of its own, shares it, and is ended
-- up to its root; its table's frame comes back to its pool, and to the host with the others
abbrev pub LifeTables : Type 0
LifeTables =
    let steps =
    VmReserve Protected 1 ∷ Fund 0x1400 4 ∷ Install ∷ VmOpen ∷ VcpuLoad (vm 0 1) 0
    ∷ DonateGuest 0x1100 0x300 1 ∷ GuestShareHost 0x300 ∷ [] in
    let ends =
    VcpuPut ∷ Teardown (vm 0 1) ∷ MarkDying ∷ ReclaimPage (vm 0 1) 0x300 ∷ ReclaimPool (vm 0 1)
    ∷ ReclaimPool (vm 0 1) ∷ ReclaimPool (vm 0 1) ∷ ReclaimPool (vm 0 1) ∷ [] in
    let s = after (small 1) (boot (small 1)) steps in
    ((s.contents.guest 0).tree.table (1, 1) ≡ Some 0x1401)
    × ((s.contents.guest 0).free ≡ 0x1402 ∷ 0x1403 ∷ [])
    × (s.contents.shared.free ≡ frames_from 0x1607 57)
    × (replies (small 1) s ends
    ≡ ok ∷ ok ∷ ok ∷ ok ∷ frame 0x1401 ∷ frame 0x1402 ∷ frame 0x1403 ∷ Refused Perm ∷ [])

-- a plain VM that has only its root can't get a page; with two more frames it can, and gets more
-- rights to it
abbrev pub PlainLife : Type 0
PlainLife =
    let s =
    after (small 1) (boot (small 1))
    (VmReserve PlainVm 1 ∷ Fund 0x1400 1 ∷ Install ∷ VmOpen ∷ VcpuLoad (vm 0 1) 0 ∷ []) in
    let t = after (small 1) s (Fund 0x1404 2 ∷ Topup (vm 0 1) ∷ ShareGuest 0x1100 0x10 RX 1 ∷ []) in
    (replies (small 1) s (ShareGuest 0x1100 0x10 RX 1 ∷ HostTranslate 0x1100 ∷ [])
    ≡ Refused NoPool ∷ Done (EntryOf Unmapped) ∷ [])
    × (replies (small 1) s
    (Fund 0x1404 2 ∷ Topup (vm 0 1) ∷ ShareGuest 0x1100 0x10 RX 1 ∷ GuestRelax 0x10 RW ∷ [])
    ≡ ok ∷ ok ∷ ok ∷ ok ∷ [])
    × ((t.contents.guest 0).tree.map 0x10 ≡ leaf RX 0x1100 SharedBorrowed)
    × ((t.contents.guest 0).free ≡ 0x1405 ∷ [])
    × (((after (small 1) t (GuestRelax 0x10 RW ∷ [])).contents.guest 0).tree.map 0x10
    ≡ leaf RWX 0x1100 SharedBorrowed)
