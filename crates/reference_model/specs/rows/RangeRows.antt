-- Worked rows of the ranged calls of a VM: a block that is given as one word, split and folded
-- again, ranges that are refused, and the rows that advance.
use Rattle.std.specs.Prelude.{◌≡◌, [], ◌∷◌, map, Some, None}
use Rattle.descriptor.specs.declared.Prot.TheVariants.{RW, RX, RWX}
use Rattle.descriptor.specs.declared.State.TheVariants.{Owned, SharedOwned, SharedBorrowed}
use Rattle.page_state.specs.declared.entry.Entry.TheVariants.{Unmapped}
use Rattle.page_state.specs.declared.row.Usage.TheVariants.{Plain}
use Rattle.call_table.specs.declared.reply.Refusal.TheVariants.{Perm, NoVm, Invalid, NoPool}
use Rattle.call_table.specs.declared.reply.Reply.TheVariants.{Done, Refused}
use Rattle.call_table.specs.declared.reply.Value.TheVariants.{Entry as EntryOf}
use Rattle.call_table.specs.declared.step.Step.TheVariants.{HostTranslate, Fund, ShareGuest, DonateGuest, GuestShareHost, GuestUnshareHost, Install, Topup, ReclaimPage, ReclaimPool, MarkDying, VmReserve, VmOpen, VcpuLoad, VcpuPut, Teardown}
use Rattle.call_table.specs.declared.step.VmKind.TheVariants.{Protected}
use Rattle.page_state.specs.EntryTests.{leaf, annotation}
use Rattle.page_state.specs.Trees.{frames_from}
use Rattle.reference_model.specs.model.Boot.{boot}
use Rattle.reference_model.specs.help.ConditionChanges.{touched_condition}
use Rattle.reference_model.specs.help.Conditions.{with_guest, guests}
use Rattle.reference_model.specs.rows.FoundRows.{kept}
use Rattle.reference_model.specs.model.GuestRules.{two_ranges}
use Rattle.reference_model.specs.rows.OwnerRows.{lent_row}
use Rattle.reference_model.specs.rows.RunRows.{replies, after, frame}
use Rattle.reference_model.specs.rows.Scene.{small, ok, vm, at, row, old_row, Refuses}
use Rattle.reference_model.specs.rows.SceneState.{scene, protected_guest, with_guest_part}
use Rattle.reference_model.specs.model.State.{Reference}
use Rattle.reference_model.specs.model.Step.{predict_step}

-- a protected VM is made, with three free frames; its vCPU is loaded
abbrev pub begun : Reference
begun =
    after (small 1) (boot (small 1))
    (VmReserve Protected 1 ∷ Fund 0x1400 4 ∷ Install ∷ VmOpen ∷ VcpuLoad (vm 0 1) 0 ∷ [])

-- and is given a block of 512 pages
abbrev pub given_block : Reference
given_block = after (small 1) begun (DonateGuest 0x1200 0x400 512 ∷ [])

-- it is one word in both trees: no table, and no frame taken; the guest's frames advance
abbrev pub BlockGiven : Type 0
BlockGiven =
    (replies (small 1) begun (DonateGuest 0x1200 0x400 512 ∷ []) ≡ ok ∷ [])
    × (at given_block.contents.shared.host.map (0x11ff ∷ 0x1200 ∷ 0x13ff ∷ 0x1400 ∷ [])
    ≡ Unmapped ∷ annotation 2 ∷ annotation 2 ∷ annotation 1 ∷ [])
    × (at (given_block.contents.guest 0).tree.map (0x3ff ∷ 0x400 ∷ 0x5ff ∷ 0x600 ∷ [])
    ≡ Unmapped ∷ leaf RWX 0x1200 Owned ∷ leaf RWX 0x13ff Owned ∷ Unmapped ∷ [])
    × (given_block.contents.shared.host.table (1, 9) ≡ None)
    × ((given_block.contents.guest 0).tree.table (1, 2) ≡ None)
    × (given_block.contents.shared.free ≡ frames_from 0x1606 58)
    × ((given_block.contents.guest 0).free ≡ 0x1401 ∷ 0x1402 ∷ 0x1403 ∷ [])

-- the guest shares a page of it, which splits it in both trees; and takes it back, which makes both
-- one word again
abbrev pub BlockSplit : Type 0
BlockSplit =
    let s = after (small 1) given_block (GuestShareHost 0x410 ∷ []) in
    let t = after (small 1) s (GuestUnshareHost 0x410 ∷ []) in
    (replies (small 1) given_block (GuestShareHost 0x410 ∷ GuestUnshareHost 0x410 ∷ [])
    ≡ ok ∷ ok ∷ [])
    × (at s.contents.shared.host.map (0x120f ∷ 0x1210 ∷ 0x1211 ∷ [])
    ≡ annotation 2 ∷ leaf RWX 0x1210 SharedBorrowed ∷ annotation 2 ∷ [])
    × ((s.contents.guest 0).tree.map 0x410 ≡ leaf RWX 0x1210 SharedOwned)
    × (s.contents.shared.host.table (1, 9) ≡ Some 0x1606)
    × ((s.contents.guest 0).tree.table (1, 2) ≡ Some 0x1401)
    × (s.contents.shared.free ≡ frames_from 0x1607 57)
    × ((s.contents.guest 0).free ≡ 0x1402 ∷ 0x1403 ∷ [])
    × (t.contents.shared.host.table (1, 9) ≡ None) × ((t.contents.guest 0).tree.table (1, 2) ≡ None)
    × (t.contents.shared.free ≡ frames_from 0x1606 58)
    × ((t.contents.guest 0).free ≡ 0x1401 ∷ 0x1402 ∷ 0x1403 ∷ [])

-- a range is refused, and nothing of it is given, if its last page is the guest's; if it leaves the
-- memory or the guest's pages; and if it has more than 512 pages
abbrev pub BlockRefused : Type 0
BlockRefused =
    Refuses (small 1) given_block 0 (DonateGuest 0x1001 0x600 512) Perm
    × Refuses (small 1) given_block 0 (DonateGuest 0x17ff 0x10 2) Invalid
    × Refuses (small 1) given_block 0 (DonateGuest 0x1000 0x3ffff 2) Invalid
    × Refuses (small 1) given_block 0 (DonateGuest 0x1000 0x10 513) Invalid

-- a page of the block is reclaimed only when both trees can split: the guest's pool first lacks a
-- frame, and has one after a top-up
abbrev pub BlockReclaimed : Type 0
BlockReclaimed =
    let ends =
    VcpuPut ∷ Teardown (vm 0 1) ∷ MarkDying ∷ ReclaimPool (vm 0 1) ∷ ReclaimPool (vm 0 1)
    ∷ ReclaimPool (vm 0 1) ∷ ReclaimPage (vm 0 1) 0x400 ∷ Fund 0x1100 1 ∷ Topup (vm 0 1)
    ∷ ReclaimPage (vm 0 1) 0x400 ∷ HostTranslate 0x1200 ∷ [] in
    let t = after (small 1) given_block ends in
    (replies (small 1) given_block ends
    ≡ ok ∷ ok ∷ ok ∷ frame 0x1401 ∷ frame 0x1402 ∷ frame 0x1403 ∷ Refused NoPool ∷ ok ∷ ok ∷ ok
    ∷ Done (EntryOf Unmapped) ∷ [])
    × (t.contents.shared.host.table (1, 9) ≡ Some 0x1608)
    × ((t.contents.guest 0).tree.table (1, 2) ≡ Some 0x1100)
    × (t.contents.shared.free ≡ frames_from 0x1609 55)
    × ((t.contents.guest 0).free ≡ [])

-- a range across blocks takes a table for each, in their order, from each tree's own pool
abbrev pub RangeAcross : Type 0
RangeAcross =
    let s = after (small 1) begun (DonateGuest 0x11ff 0x3ff 2 ∷ []) in
    (replies (small 1) begun (DonateGuest 0x11ff 0x3ff 2 ∷ []) ≡ ok ∷ [])
    × (at s.contents.shared.host.map (0x11fe ∷ 0x11ff ∷ 0x1200 ∷ 0x1201 ∷ [])
    ≡ Unmapped ∷ annotation 2 ∷ annotation 2 ∷ Unmapped ∷ [])
    × (at (s.contents.guest 0).tree.map (0x3fe ∷ 0x3ff ∷ 0x400 ∷ 0x401 ∷ [])
    ≡ Unmapped ∷ leaf RWX 0x11ff Owned ∷ leaf RWX 0x1200 Owned ∷ Unmapped ∷ [])
    × (s.contents.shared.host.table (1, 8) ≡ Some 0x1606)
    × (s.contents.shared.host.table (1, 9) ≡ Some 0x1607)
    × ((s.contents.guest 0).tree.table (1, 1) ≡ Some 0x1401)
    × ((s.contents.guest 0).tree.table (1, 2) ≡ Some 0x1402)
    × (s.contents.shared.free ≡ frames_from 0x1608 56) × ((s.contents.guest 0).free ≡ 0x1403 ∷ [])

-- ranges are refused: of no page; a bad one of which the first page is good, though no vCPU is
-- loaded; none loaded; a later page that isn't free, or whose guest page isn't empty; a free frame
-- for one of two tables
abbrev pub RangeRefused : Type 0
RangeRefused =
    Refuses (small 1) scene 0 (DonateGuest 0x1401 9 0) Invalid
    × Refuses (small 1) scene 2 (DonateGuest 0x17ff 9 2) Invalid
    × Refuses (small 1) scene 2 (ShareGuest 0x1401 0x3ffff RW 2) Invalid
    × Refuses (small 1) scene 2 (ShareGuest 0x1401 0x300 RW 2) NoVm
    × Refuses (small 1) scene 0 (DonateGuest 0x1000 9 2) Perm
    × Refuses (small 1) scene 0 (DonateGuest 0x1401 6 2) Perm
    × Refuses (small 1) scene 1 (ShareGuest 0x1401 15 RW 2) Perm
    × Refuses (small 1) scene 0 (ShareGuest 0x1401 0x300 RW 2) Perm
    × Refuses (small 1) scene 1 (DonateGuest 0x1401 0x300 2) Perm
    × Refuses (small 1) (with_guest_part 3 (record protected_guest { free = 0x1705 ∷ [] }) scene) 0
    (DonateGuest 0x1401 0x3ff 2) NoPool
    × ((predict_step (small 1)
    (with_guest_part 3 (record protected_guest { free = 0x1705 ∷ [] }) scene) 0
    (DonateGuest 0x1401 0x3ff 1)).0
    ≡ ok)

-- a shared range has the given rights on each page, and its frames advance
abbrev pub RangeShared : Type 0
RangeShared =
    let r = predict_step (small 1) scene 1 (ShareGuest 0x1401 0x300 RX 2) in
    (r.0 ≡ ok)
    × (at r.1.contents.shared.host.map (0x1400 ∷ 0x1401 ∷ 0x1402 ∷ 0x1403 ∷ [])
    ≡ Unmapped ∷ leaf RWX 0x1401 SharedOwned ∷ leaf RWX 0x1402 SharedOwned ∷ Unmapped ∷ [])
    × (at (r.1.contents.guest 4).tree.map (0x2ff ∷ 0x300 ∷ 0x301 ∷ 0x302 ∷ [])
    ≡ Unmapped ∷ leaf RX 0x1401 SharedBorrowed ∷ leaf RX 0x1402 SharedBorrowed ∷ Unmapped ∷ [])

-- the rows of a range: a loan's page advances with its frame, and an owner is one for all
abbrev pub RangeKept : Type 0
RangeKept =
    (at (kept 1 (ShareGuest 0x10d 24 RW 3)) (0x10d ∷ 0x10e ∷ 0x10f ∷ 0x110 ∷ [])
    ≡ lent_row 0 6 24 ∷ lent_row 0 6 25 ∷ lent_row 0 6 26 ∷ old_row ∷ [])
    × (at (kept 0 (DonateGuest 0x10d 9 3)) (0x10d ∷ 0x10e ∷ 0x10f ∷ 0x110 ∷ [])
    ≡ row 5 Plain ∷ row 5 Plain ∷ row 5 Plain ∷ old_row ∷ [])

-- the conditions of a range: each frame's page
abbrev pub RangeMoves : Type 0
RangeMoves =
    (map (touched_condition 3 (Some 2) (two_ranges 5 (annotation 4) 9 (leaf RWX 5 Owned) 3))
    (5 ∷ 6 ∷ 7 ∷ [])
    ≡ guests 2 9 ∷ guests 2 10 ∷ guests 2 11 ∷ [])
    × (map
    (touched_condition 3 (Some 2)
    (two_ranges 5 (leaf RWX 5 SharedOwned) 9 (leaf RW 5 SharedBorrowed) 3))
    (5 ∷ 6 ∷ 7 ∷ [])
    ≡ with_guest 2 9 ∷ with_guest 2 10 ∷ with_guest 2 11 ∷ [])
