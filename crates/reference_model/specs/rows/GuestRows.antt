-- Worked rows of the calls on the pages of a Live guest, in trees of two levels.
use Rattle.std.specs.Prelude.{◌≡◌, [], ◌∷◌, Some, None}
use Rattle.descriptor.specs.declared.Prot.TheVariants.{R, RW, RX, RWX}
use Rattle.descriptor.specs.declared.State.TheVariants.{Owned, SharedOwned, SharedBorrowed}
use Rattle.page_state.specs.declared.entry.Entry.TheVariants.{Unmapped}
use Rattle.call_table.specs.declared.reply.Refusal.TheVariants.{Perm, NoVm, Invalid, NoPool}
use Rattle.call_table.specs.declared.step.Step.TheVariants.{ShareGuest, UnshareGuest, DonateGuest}
use Rattle.page_state.specs.EntryTests.{leaf, annotation}
use Rattle.reference_model.specs.model.Step.{predict_step}
use Rattle.reference_model.specs.rows.Scene.{small, ok, vm, at, Refuses}
use Rattle.reference_model.specs.rows.SceneState.{scene, protected_guest, plain_guest, with_free, with_guest_part}

-- a share with a plain guest marks the host's page and the guest's with the given rights alone; the
-- tables come from their own pools
abbrev pub ShareGuestMade : Type 0
ShareGuestMade =
    let r = predict_step (small 1) scene 1 (ShareGuest 0x1401 0x300 RW 1) in
    let g = r.1.contents.guest 4 in
    (r.0 ≡ ok)
    × (at r.1.contents.shared.host.map (0x1400 ∷ 0x1401 ∷ 0x1402 ∷ [])
    ≡ Unmapped ∷ leaf RWX 0x1401 SharedOwned ∷ Unmapped ∷ [])
    × (at g.tree.map (0x2ff ∷ 0x300 ∷ 0x301 ∷ [])
    ≡ Unmapped ∷ leaf RW 0x1401 SharedBorrowed ∷ Unmapped ∷ [])
    × (r.1.contents.shared.hyp.map 0x4001401 ≡ Unmapped)
    × (r.1.contents.shared.host.table (1, 10) ≡ Some 0x1610)
    × (r.1.contents.shared.free ≡ 0x1612 ∷ 0x1620 ∷ [])
    × (g.tree.table (1, 1) ≡ Some 0x1710)
    × (g.free ≡ 0x1714 ∷ [])
    × (r.1.contents.cpu 1 ≡ scene.contents.cpu 1)
    × (r.1.contents.vms ≡ scene.contents.vms)

-- an Owned page can be shared as well; tables that exist are used, and if they don't exist, one
-- free frame in each pool is enough
abbrev pub ShareGuestNear : Type 0
ShareGuestNear =
    let r = predict_step (small 1) scene 1 (ShareGuest 0x1000 17 RX 1) in
    let s =
    with_free (0x1610 ∷ [])
    (with_guest_part 4 (record plain_guest { free = 0x1714 ∷ [] }) scene) in
    let q = predict_step (small 1) s 1 (ShareGuest 0x1401 0x3ffff R 1) in
    (r.0 ≡ ok)
    × (at r.1.contents.shared.host.map (0xfff ∷ 0x1000 ∷ 0x1001 ∷ [])
    ≡ Unmapped ∷ leaf RWX 0x1000 SharedOwned ∷ leaf RWX 0x1001 SharedOwned ∷ [])
    × (at (r.1.contents.guest 4).tree.map (16 ∷ 17 ∷ 18 ∷ [])
    ≡ leaf RX 0x1006 SharedBorrowed ∷ leaf RX 0x1000 SharedBorrowed ∷ Unmapped ∷ [])
    × ((r.1.contents.guest 4).free ≡ 0x1710 ∷ 0x1714 ∷ [])
    × (r.1.contents.shared.free ≡ 0x1610 ∷ 0x1612 ∷ 0x1620 ∷ [])
    × (r.1.contents.guest 3 ≡ protected_guest)
    × (q.0 ≡ ok)
    × (q.1.contents.shared.free ≡ [])
    × ((q.1.contents.guest 4).free ≡ [])
    × ((q.1.contents.guest 4).tree.map 0x3ffff ≡ leaf R 0x1401 SharedBorrowed)

-- it is refused: a bad frame or guest page, though no vCPU is loaded; none loaded, though the page
-- isn't free; a protected VM; a page that isn't free; a guest page that is mapped; too few free
-- frames in either pool
abbrev pub ShareGuestRefused : Type 0
ShareGuestRefused =
    Refuses (small 1) scene 2 (ShareGuest 0x900 17 RW 1) Invalid
    × Refuses (small 1) scene 1 (ShareGuest 0x1000 0x40000 RW 1) Invalid
    × Refuses (small 1) scene 2 (ShareGuest 0x1001 17 RW 1) NoVm
    × Refuses (small 1) scene 0 (ShareGuest 0x1000 17 RW 1) Perm
    × Refuses (small 1) scene 1 (ShareGuest 0x1001 17 RW 1) Perm
    × Refuses (small 1) scene 1 (ShareGuest 0x1007 17 RW 1) Perm
    × Refuses (small 1) scene 1 (ShareGuest 0x1009 17 RW 1) Perm
    × Refuses (small 1) scene 1 (ShareGuest 0x1000 16 RW 1) Perm
    × Refuses (small 1) (with_free [] scene) 1 (ShareGuest 0x1300 17 RW 1) Perm
    × Refuses (small 1) (with_free [] scene) 1 (ShareGuest 0x1401 17 RW 1) NoPool
    × Refuses (small 1) (with_guest_part 4 (record plain_guest { free = [] }) scene) 1
    (ShareGuest 0x1000 0x300 RW 1) NoPool

-- the guest's page is unmapped, and the host has its page for itself; the guest's emptied table
-- goes, and its frame comes back to its place in the guest's own pool
abbrev pub UnshareGuestMade : Type 0
UnshareGuestMade =
    let r = predict_step (small 1) scene 2 (UnshareGuest (vm 4 2) 16) in
    let g = r.1.contents.guest 4 in
    (r.0 ≡ ok)
    × (at r.1.contents.shared.host.map (0x1005 ∷ 0x1006 ∷ 0x1007 ∷ [])
    ≡ annotation 1 ∷ leaf RWX 0x1006 Owned ∷ leaf RWX 0x1007 SharedBorrowed ∷ [])
    × (at g.tree.map (15 ∷ 16 ∷ 17 ∷ []) ≡ Unmapped ∷ Unmapped ∷ Unmapped ∷ [])
    × (g.tree.table (1, 0) ≡ None)
    × (g.tree.table (2, 0) ≡ Some 0x1711)
    × (g.free ≡ 0x1710 ∷ 0x1712 ∷ 0x1714 ∷ [])
    × (r.1.contents.shared.free ≡ 0x1610 ∷ 0x1612 ∷ 0x1620 ∷ [])
    × (r.1.contents.cpu 2 ≡ scene.contents.cpu 2)

-- it is refused: no such slot or guest page, though the generation is wrong; another generation, a
-- Dying guest, an Empty one; a page that isn't borrowed
abbrev pub UnshareGuestRefused : Type 0
UnshareGuestRefused =
    Refuses (small 1) scene 2 (UnshareGuest (vm 64 2) 16) Invalid
    × Refuses (small 1) scene 2 (UnshareGuest (vm 4 1) 0x40000) Invalid
    × Refuses (small 1) scene 2 (UnshareGuest (vm 4 1) 17) NoVm
    × Refuses (small 1) scene 2 (UnshareGuest (vm 4 3) 16) NoVm
    × Refuses (small 1) scene 2 (UnshareGuest (vm 5 3) 3) NoVm
    × Refuses (small 1) scene 2 (UnshareGuest (vm 6 0) 16) NoVm
    × Refuses (small 1) scene 2 (UnshareGuest (vm 4 2) 17) Perm
    × Refuses (small 1) scene 2 (UnshareGuest (vm 3 5) 7) Perm
    × Refuses (small 1) scene 2 (UnshareGuest (vm 3 5) 8) Perm

-- a donation to a protected guest leaves the host its owner's number, and maps the guest's page
abbrev pub DonateGuestMade : Type 0
DonateGuestMade =
    let r = predict_step (small 1) scene 0 (DonateGuest 0x1401 0x300 1) in
    let g = r.1.contents.guest 3 in
    (r.0 ≡ ok)
    × (at r.1.contents.shared.host.map (0x1400 ∷ 0x1401 ∷ 0x1402 ∷ [])
    ≡ Unmapped ∷ annotation 5 ∷ Unmapped ∷ [])
    × (at g.tree.map (0x2ff ∷ 0x300 ∷ 0x301 ∷ [])
    ≡ Unmapped ∷ leaf RWX 0x1401 Owned ∷ Unmapped ∷ [])
    × (r.1.contents.shared.hyp.map 0x4001401 ≡ Unmapped)
    × (r.1.contents.shared.host.table (1, 10) ≡ Some 0x1610)
    × (r.1.contents.shared.free ≡ 0x1612 ∷ 0x1620 ∷ [])
    × (g.tree.table (1, 1) ≡ Some 0x1702)
    × (g.free ≡ 0x1705 ∷ [])
    × (r.1.contents.guest 4 ≡ plain_guest)
    × (r.1.contents.cpu 0 ≡ scene.contents.cpu 0)

-- an Owned page can be donated as well, and tables that exist take no frame
abbrev pub DonateGuestNear : Type 0
DonateGuestNear =
    let r = predict_step (small 1) scene 0 (DonateGuest 0x1000 9 1) in
    (r.0 ≡ ok)
    × (at r.1.contents.shared.host.map (0xfff ∷ 0x1000 ∷ 0x1001 ∷ [])
    ≡ Unmapped ∷ annotation 5 ∷ leaf RWX 0x1001 SharedOwned ∷ [])
    × (at (r.1.contents.guest 3).tree.map (8 ∷ 9 ∷ 10 ∷ [])
    ≡ leaf RWX 0x1007 SharedOwned ∷ leaf RWX 0x1000 Owned ∷ Unmapped ∷ [])
    × ((r.1.contents.guest 3).free ≡ 0x1702 ∷ 0x1705 ∷ [])
    × (r.1.contents.shared.free ≡ 0x1610 ∷ 0x1612 ∷ 0x1620 ∷ [])
