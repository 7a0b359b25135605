-- Worked rows of the calls that end a guest, in trees of two levels, and of one level for searches
-- of a whole guest.
use Rattle.std.specs.Prelude.{◌≡◌, [], ◌∷◌, Some, None}
use Rattle.descriptor.specs.declared.Prot.TheVariants.{RW, RWX}
use Rattle.descriptor.specs.declared.State.TheVariants.{Owned, SharedOwned, SharedBorrowed}
use Rattle.reference_model.specs.declared.changes.Stage.TheVariants.{Dying, Finished}
use Rattle.page_state.specs.declared.entry.Entry.TheVariants.{Unmapped}
use Rattle.call_table.specs.declared.reply.Refusal.TheVariants.{Perm, NoVm, Invalid, NoPool}
use Rattle.call_table.specs.declared.reply.Reply.TheVariants.{Done}
use Rattle.call_table.specs.declared.reply.Value.TheVariants.{Frame as FrameOf}
use Rattle.call_table.specs.declared.step.Step.TheVariants.{ReclaimPage, ReclaimPool, FinishGuest, MarkDying}
use Rattle.page_state.specs.EntryTests.{leaf, annotation}
use Rattle.page_state.specs.Trees.{Pool}
use Rattle.reference_model.specs.model.State.{dying, Guest, no_guest}
use Rattle.page_state.specs.Map.{Map}
use Rattle.reference_model.specs.model.Step.{predict_step}
use Rattle.reference_model.specs.rows.Scene.{small, ok, vm, pages, tables, at, Refuses, GuestAlone}
use Rattle.reference_model.specs.rows.SceneState.{scene, protected_guest, dying_guest, bare_guest, low_tree, ticketed, with_free, with_guest_part}

-- a Live guest of a Closing VM becomes Dying, and the ticket goes on; nothing else changes
abbrev pub MarkDyingMade : Type 0
MarkDyingMade =
    let r = predict_step (small 1) scene 5 MarkDying in
    (r.0 ≡ ok)
    × GuestAlone scene r.1
    × (r.1.contents.guest 7 ≡ record (bare_guest 0x1740) { phase = dying })
    × (r.1.contents.guest 3 ≡ protected_guest)
    × (r.1.contents.cpu 5 ≡ ticketed 7 1 Dying)

-- it is refused: no ticket, or one that isn't Closing
abbrev pub MarkDyingRefused : Type 0
MarkDyingRefused =
    Refuses (small 1) scene 2 MarkDying NoVm
    × Refuses (small 1) scene 4 MarkDying NoVm
    × Refuses (small 1) scene 6 MarkDying NoVm
    × Refuses (small 1) scene 7 MarkDying NoVm
    × Refuses (small 1) scene 8 MarkDying NoVm

-- a page that a Dying guest owned is unmapped on both sides
abbrev pub ReclaimPageOwned : Type 0
ReclaimPageOwned =
    let r = predict_step (small 1) scene 2 (ReclaimPage (vm 5 3) 1) in
    (r.0 ≡ ok)
    × (at r.1.contents.shared.host.map (0x1009 ∷ 0x100a ∷ 0x100b ∷ [])
    ≡ annotation 5 ∷ Unmapped ∷ leaf RWX 0x100b SharedBorrowed ∷ [])
    × (at (r.1.contents.guest 5).tree.map (0 ∷ 1 ∷ 2 ∷ [])
    ≡ Unmapped ∷ Unmapped ∷ leaf RWX 0x100b SharedOwned ∷ [])
    × ((r.1.contents.guest 5).phase ≡ dying)
    × ((r.1.contents.guest 5).free ≡ 0x1722 ∷ 0x1724 ∷ [])
    × (r.1.contents.shared.free ≡ 0x1610 ∷ 0x1612 ∷ 0x1620 ∷ [])
    × (r.1.contents.cpu 2 ≡ scene.contents.cpu 2)

-- a page that it shared with the host, or borrowed from it, is the host's again
abbrev pub ReclaimPageShared : Type 0
ReclaimPageShared =
    let r = predict_step (small 1) scene 2 (ReclaimPage (vm 5 3) 2) in
    let q = predict_step (small 1) scene 2 (ReclaimPage (vm 5 3) 3) in
    (r.0 ≡ ok)
    × (at r.1.contents.shared.host.map (0x100a ∷ 0x100b ∷ 0x100c ∷ [])
    ≡ annotation 7 ∷ leaf RWX 0x100b Owned ∷ leaf RWX 0x100c SharedOwned ∷ [])
    × (at (r.1.contents.guest 5).tree.map (1 ∷ 2 ∷ 3 ∷ [])
    ≡ leaf RWX 0x100a Owned ∷ Unmapped ∷ leaf RW 0x100c SharedBorrowed ∷ [])
    × (q.0 ≡ ok)
    × (at q.1.contents.shared.host.map (0x100b ∷ 0x100c ∷ 0x100d ∷ [])
    ≡ leaf RWX 0x100b SharedBorrowed ∷ leaf RWX 0x100c Owned ∷ annotation 5 ∷ [])
    × (at (q.1.contents.guest 5).tree.map (2 ∷ 3 ∷ 4 ∷ [])
    ≡ leaf RWX 0x100b SharedOwned ∷ Unmapped ∷ Unmapped ∷ [])

-- with a guest's last page its table goes too, and comes back to its place in the guest's pool; the
-- root stays
abbrev pub ReclaimPageRemoves : Type 0
ReclaimPageRemoves =
    let last =
    record dying_guest
    { tree = low_tree 0x1721 0x1723 (pages ((1, leaf RWX 0x100a Owned) ∷ [])) } in
    let r = predict_step (small 1) (with_guest_part 5 last scene) 2 (ReclaimPage (vm 5 3) 1) in
    (r.0 ≡ ok)
    × ((r.1.contents.guest 5).tree.table (1, 0) ≡ None)
    × ((r.1.contents.guest 5).tree.table (2, 0) ≡ Some 0x1721)
    × ((r.1.contents.guest 5).free ≡ 0x1722 ∷ 0x1723 ∷ 0x1724 ∷ [])

-- it is refused: no such slot or guest page, though the guest is Live; a Live guest, another
-- generation, an Empty guest; a page that isn't mapped
abbrev pub ReclaimPageRefused : Type 0
ReclaimPageRefused =
    Refuses (small 1) scene 2 (ReclaimPage (vm 64 3) 1) Invalid
    × Refuses (small 1) scene 2 (ReclaimPage (vm 3 5) 0x40000) Invalid
    × Refuses (small 1) scene 2 (ReclaimPage (vm 3 5) 7) NoVm
    × Refuses (small 1) scene 2 (ReclaimPage (vm 5 2) 4) NoVm
    × Refuses (small 1) scene 2 (ReclaimPage (vm 6 0) 1) NoVm
    × Refuses (small 1) scene 2 (ReclaimPage (vm 5 3) 4) Perm

-- the reply has the lowest frame of a Dying guest's pool, which is given back: unmapped on both
-- sides; the block that it lay in is split, with tables from the shared pool
abbrev pub ReclaimPoolMade : Type 0
ReclaimPoolMade =
    let r = predict_step (small 1) scene 2 (ReclaimPool (vm 5 3)) in
    (r.0 ≡ Done (FrameOf (record { 0 = 0x1722 })))
    × (at r.1.contents.shared.host.map (0x1721 ∷ 0x1722 ∷ 0x1723 ∷ [])
    ≡ annotation 1 ∷ Unmapped ∷ annotation 1 ∷ [])
    × (at r.1.contents.shared.hyp.map (0x4001721 ∷ 0x4001722 ∷ 0x4001723 ∷ [])
    ≡ leaf RW 0x1721 Owned ∷ Unmapped ∷ leaf RW 0x1723 Owned ∷ [])
    × (r.1.contents.shared.host.table (1, 11) ≡ Some 0x1610)
    × (r.1.contents.shared.hyp.table (1, 0x2000b) ≡ Some 0x1612)
    × (r.1.contents.shared.free ≡ 0x1620 ∷ [])
    × (r.1.contents.guest 5 ≡ record dying_guest { free = 0x1724 ∷ [] })
    × (r.1.contents.cpu 2 ≡ scene.contents.cpu 2)

-- it is refused: no such slot; a Live guest, another generation, an Empty guest; a pool without a
-- free frame; too few free frames in the shared pool
abbrev pub ReclaimPoolRefused : Type 0
ReclaimPoolRefused =
    Refuses (small 1) scene 2 (ReclaimPool (vm 64 3)) Invalid
    × Refuses (small 1) scene 2 (ReclaimPool (vm 3 5)) NoVm
    × Refuses (small 1) scene 2 (ReclaimPool (vm 5 4)) NoVm
    × Refuses (small 1) scene 2 (ReclaimPool (vm 6 0)) NoVm
    × Refuses (small 1) (with_guest_part 5 (record dying_guest { free = [] }) scene) 2
    (ReclaimPool (vm 5 3)) Perm
    × Refuses (small 1) (with_free (0x1610 ∷ []) scene) 2 (ReclaimPool (vm 5 3)) NoPool

-- a Dying guest of the root 0x1741 in a tree of one level, with these pages and free frames
abbrev pub flat_guest : Map → Pool → Guest
flat_guest map free =
    record (bare_guest 0x1741) {
      phase = dying;
      free = free;
      tree = record { map = map; table = tables (((1, 0), 0x1741) ∷ []) };
    }

-- a finished guest is Empty; its root's frame is unmapped on both sides, and the ticket goes on
abbrev pub FinishGuestMade : Type 0
FinishGuestMade =
    let r =
    predict_step (small 0) (with_guest_part 8 (flat_guest (pages []) []) scene) 6 FinishGuest in
    (r.0 ≡ ok)
    × (r.1.contents.guest 8 ≡ no_guest)
    × (r.1.contents.cpu 6 ≡ ticketed 8 1 Finished)
    × (r.1.contents.guest 3 ≡ protected_guest)
    × (at r.1.contents.shared.host.map (0x1740 ∷ 0x1741 ∷ 0x1742 ∷ [])
    ≡ annotation 1 ∷ Unmapped ∷ annotation 1 ∷ [])
    × (r.1.contents.vms ≡ scene.contents.vms)
    × (at r.1.contents.shared.hyp.map (0x4001740 ∷ 0x4001741 ∷ 0x4001742 ∷ [])
    ≡ leaf RW 0x1740 Owned ∷ Unmapped ∷ leaf RW 0x1742 Owned ∷ [])
    × (r.1.contents.shared.free ≡ 0x1610 ∷ 0x1612 ∷ 0x1620 ∷ [])

-- it is refused: no ticket, or one that isn't Dying, though the pool isn't empty; a page that is
-- mapped, the last one too; a free frame in the guest's pool
abbrev pub FinishGuestRefused : Type 0
FinishGuestRefused =
    Refuses (small 0) scene 2 FinishGuest NoVm
    × Refuses (small 0) scene 5 FinishGuest NoVm
    × Refuses (small 0) scene 8 FinishGuest NoVm
    × Refuses (small 0)
    (with_guest_part 8 (flat_guest (pages ((3, leaf RWX 0x100a Owned) ∷ [])) []) scene) 6
    FinishGuest Perm
    × Refuses (small 0)
    (with_guest_part 8
    (flat_guest (pages ((511, leaf RW 0x100c SharedBorrowed) ∷ [])) []) scene) 6
    FinishGuest Perm
    × Refuses (small 0)
    (with_guest_part 8 (flat_guest (pages []) (0x1744 ∷ [])) scene) 6 FinishGuest Perm
