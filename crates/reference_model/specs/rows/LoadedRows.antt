-- Worked rows of the calls on a Live guest's pages, continued: refused donations, and the calls of
-- a guest on its own pages.
use Rattle.std.specs.Prelude.{◌≡◌, [], ◌∷◌}
use Rattle.descriptor.specs.declared.Prot.TheVariants.{R, RW, RX, RWX}
use Rattle.descriptor.specs.declared.State.TheVariants.{Owned, SharedOwned, SharedBorrowed}
use Rattle.page_state.specs.declared.entry.Entry.TheVariants.{Unmapped}
use Rattle.call_table.specs.declared.reply.Refusal.TheVariants.{Perm, NoVm, Invalid, NoPool}
use Rattle.call_table.specs.declared.reply.Reply.TheVariants.{Done}
use Rattle.call_table.specs.declared.reply.Value.TheVariants.{Entry as EntryOf}
use Rattle.call_table.specs.declared.step.Step.TheVariants.{DonateGuest, GuestShareHost, GuestUnshareHost, GuestRelax, GuestTranslate}
use Rattle.page_state.specs.EntryTests.{leaf, annotation, join}
use Rattle.reference_model.specs.model.Step.{predict_step}
use Rattle.reference_model.specs.rows.Scene.{small, ok, vm, at, Refuses, GuestAlone}
use Rattle.reference_model.specs.rows.SceneState.{scene, protected_guest, with_free, with_guest_part}

-- a donation is refused: a bad frame or guest page, though no vCPU is loaded; none loaded, though
-- the page isn't free; a plain VM; a page that isn't free; a guest page that is mapped; too few
-- free frames in either pool
abbrev pub DonateGuestRefused : Type 0
DonateGuestRefused =
    Refuses (small 1) scene 2 (DonateGuest 0x900 9 1) Invalid
    × Refuses (small 1) scene 0 (DonateGuest 0x1000 0x40000 1) Invalid
    × Refuses (small 1) scene 2 (DonateGuest 0x1001 9 1) NoVm
    × Refuses (small 1) scene 1 (DonateGuest 0x1000 17 1) Perm
    × Refuses (small 1) scene 0 (DonateGuest 0x1001 9 1) Perm
    × Refuses (small 1) scene 0 (DonateGuest 0x1007 9 1) Perm
    × Refuses (small 1) scene 0 (DonateGuest 0x1009 9 1) Perm
    × Refuses (small 1) scene 0 (DonateGuest 0x1000 7 1) Perm
    × Refuses (small 1) (with_free [] scene) 0 (DonateGuest 0x1300 9 1) Perm
    × Refuses (small 1) (with_free [] scene) 0 (DonateGuest 0x1401 9 1) NoPool
    × Refuses (small 1) (with_guest_part 3 (record protected_guest { free = [] }) scene) 0
    (DonateGuest 0x1000 0x300 1) NoPool

-- a guest shares a page: its own entry changes its state and nothing else, and the host borrows the
-- frame
abbrev pub GuestShareHostMade : Type 0
GuestShareHostMade =
    let r = predict_step (small 1) scene 0 (GuestShareHost 7) in
    let q = predict_step (small 1) scene 0 (GuestShareHost 12) in
    (r.0 ≡ ok)
    × (at r.1.contents.shared.host.map (0x1008 ∷ 0x1009 ∷ 0x100a ∷ [])
    ≡ Unmapped ∷ leaf RWX 0x1009 SharedBorrowed ∷ annotation 7 ∷ [])
    × (at (r.1.contents.guest 3).tree.map (6 ∷ 7 ∷ 8 ∷ [])
    ≡ Unmapped ∷ leaf RWX 0x1009 SharedOwned ∷ leaf RWX 0x1007 SharedOwned ∷ [])
    × ((r.1.contents.guest 3).free ≡ 0x1702 ∷ 0x1705 ∷ [])
    × (r.1.contents.shared.free ≡ 0x1610 ∷ 0x1612 ∷ 0x1620 ∷ [])
    × (r.1.contents.cpu 0 ≡ scene.contents.cpu 0)
    × (q.0 ≡ ok)
    × ((q.1.contents.guest 3).tree.map 12 ≡ leaf RX 0x100d SharedOwned)
    × (q.1.contents.shared.host.map 0x100d ≡ leaf RWX 0x100d SharedBorrowed)

-- it is refused: a bad guest page, though no vCPU is loaded; none loaded; a page that is shared,
-- unmapped or borrowed
abbrev pub GuestShareHostRefused : Type 0
GuestShareHostRefused =
    Refuses (small 1) scene 2 (GuestShareHost 0x40000) Invalid
    × Refuses (small 1) scene 2 (GuestShareHost 7) NoVm
    × Refuses (small 1) scene 0 (GuestShareHost 8) Perm
    × Refuses (small 1) scene 0 (GuestShareHost 9) Perm
    × Refuses (small 1) scene 1 (GuestShareHost 16) Perm

-- a guest takes a page back: its own entry changes its state and nothing else, and the host has its
-- owner's number
abbrev pub GuestUnshareHostMade : Type 0
GuestUnshareHostMade =
    let r = predict_step (small 1) scene 0 (GuestUnshareHost 8) in
    (r.0 ≡ ok)
    × (at r.1.contents.shared.host.map (0x1006 ∷ 0x1007 ∷ 0x1008 ∷ [])
    ≡ leaf RWX 0x1006 SharedOwned ∷ annotation 5 ∷ Unmapped ∷ [])
    × (at (r.1.contents.guest 3).tree.map (7 ∷ 8 ∷ 9 ∷ [])
    ≡ leaf RWX 0x1009 Owned ∷ leaf RWX 0x1007 Owned ∷ Unmapped ∷ [])
    × ((r.1.contents.guest 3).free ≡ 0x1702 ∷ 0x1705 ∷ [])
    × (r.1.contents.shared.free ≡ 0x1610 ∷ 0x1612 ∷ 0x1620 ∷ [])
    × (r.1.contents.cpu 0 ≡ scene.contents.cpu 0)

-- it is refused: a bad guest page, though no vCPU is loaded; none loaded; a page that isn't shared
abbrev pub GuestUnshareHostRefused : Type 0
GuestUnshareHostRefused =
    Refuses (small 1) scene 2 (GuestUnshareHost 0x40000) Invalid
    × Refuses (small 1) scene 2 (GuestUnshareHost 8) NoVm
    × Refuses (small 1) scene 0 (GuestUnshareHost 7) Perm
    × Refuses (small 1) scene 0 (GuestUnshareHost 9) Perm
    × Refuses (small 1) scene 1 (GuestUnshareHost 16) Perm

-- a guest gets more rights to a page that it borrows, and nothing else changes
abbrev pub GuestRelaxMade : Type 0
GuestRelaxMade =
    let r = predict_step (small 1) scene 1 (GuestRelax 16 RW) in
    let q = predict_step (small 1) scene 1 (GuestRelax 16 R) in
    (r.0 ≡ ok)
    × GuestAlone scene r.1
    × (at (r.1.contents.guest 4).tree.map (15 ∷ 16 ∷ 17 ∷ [])
    ≡ Unmapped ∷ leaf RWX 0x1006 SharedBorrowed ∷ Unmapped ∷ [])
    × ((r.1.contents.guest 4).free ≡ 0x1710 ∷ 0x1714 ∷ [])
    × (r.1.contents.cpu 1 ≡ scene.contents.cpu 1)
    × (q.0 ≡ ok) × ((q.1.contents.guest 4).tree.map 16 ≡ leaf RX 0x1006 SharedBorrowed)

-- the old rights and the new together, for each pair
abbrev pub RightsJoined : Type 0
RightsJoined =
    (join R R ≡ R)
    × (join R RW ≡ RW)
    × (join R RX ≡ RX)
    × (join R RWX ≡ RWX)
    × (join RW R ≡ RW)
    × (join RW RW ≡ RW)
    × (join RW RX ≡ RWX)
    × (join RW RWX ≡ RWX)
    × (join RX R ≡ RX)
    × (join RX RW ≡ RWX)
    × (join RX RX ≡ RX)
    × (join RX RWX ≡ RWX)
    × (join RWX R ≡ RWX)
    × (join RWX RW ≡ RWX)
    × (join RWX RX ≡ RWX)
    × (join RWX RWX ≡ RWX)

-- it is refused: a bad guest page, though no vCPU is loaded; none loaded; a page that isn't
-- borrowed
abbrev pub GuestRelaxRefused : Type 0
GuestRelaxRefused =
    Refuses (small 1) scene 2 (GuestRelax 0x40000 RW) Invalid
    × Refuses (small 1) scene 2 (GuestRelax 16 RW) NoVm
    × Refuses (small 1) scene 0 (GuestRelax 7 RW) Perm
    × Refuses (small 1) scene 0 (GuestRelax 8 RW) Perm
    × Refuses (small 1) scene 1 (GuestRelax 17 RW) Perm

-- any CPU may ask for the entry of a Live or a Dying guest's page, an unmapped one's too, and
-- nothing changes
abbrev pub GuestTranslateMade : Type 0
GuestTranslateMade =
    let r = predict_step (small 1) scene 2 (GuestTranslate (vm 3 5) 8) in
    (r.0 ≡ Done (EntryOf (leaf RWX 0x1007 SharedOwned)))
    × GuestAlone scene r.1
    × (r.1.contents.guest 3 ≡ protected_guest)
    × (r.1.contents.cpu 2 ≡ scene.contents.cpu 2)
    × ((predict_step (small 1) scene 2 (GuestTranslate (vm 5 3) 3)).0
    ≡ Done (EntryOf (leaf RW 0x100c SharedBorrowed)))
    × ((predict_step (small 1) scene 2 (GuestTranslate (vm 4 2) 0x3ffff)).0
    ≡ Done (EntryOf Unmapped))

-- it is refused: no such slot or guest page, though the generation is wrong; another generation, or
-- an Empty guest
abbrev pub GuestTranslateRefused : Type 0
GuestTranslateRefused =
    Refuses (small 1) scene 2 (GuestTranslate (vm 64 5) 8) Invalid
    × Refuses (small 1) scene 2 (GuestTranslate (vm 3 4) 0x40000) Invalid
    × Refuses (small 1) scene 2 (GuestTranslate (vm 3 4) 8) NoVm
    × Refuses (small 1) scene 2 (GuestTranslate (vm 5 2) 3) NoVm
    × Refuses (small 1) scene 2 (GuestTranslate (vm 6 0) 3) NoVm
