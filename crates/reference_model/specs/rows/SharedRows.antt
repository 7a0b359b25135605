-- Worked rows of the calls between the host and the hypervisor, in trees of two levels.
use Rattle.std.specs.Prelude.{◌≡◌, [], ◌∷◌, Some, None}
use Rattle.descriptor.specs.declared.Prot.TheVariants.{RW, RWX}
use Rattle.descriptor.specs.declared.State.TheVariants.{Owned, SharedOwned, SharedBorrowed}
use Rattle.page_state.specs.declared.entry.Entry.TheVariants.{Unmapped}
use Rattle.call_table.specs.declared.reply.Refusal.TheVariants.{Perm, Invalid, NoPool}
use Rattle.call_table.specs.declared.step.Step.TheVariants.{ShareHyp, UnshareHyp, DonateHyp, HypDonateHost}
use Rattle.page_state.specs.EntryTests.{leaf, annotation}
use Rattle.reference_model.specs.model.Step.{predict_step}
use Rattle.reference_model.specs.rows.Scene.{small, ok, at, Refuses, SharedAlone}
use Rattle.reference_model.specs.rows.SceneState.{scene, with_free, lonely}

-- a share marks only the host's page and the hypervisor's; the host's new table gets the lowest
-- free frame, the hypervisor's the next
abbrev pub ShareHypMade : Type 0
ShareHypMade =
    let r = predict_step (small 1) scene 2 (ShareHyp 0x1401) in
    (r.0 ≡ ok) × SharedAlone scene 2 r.1
    × (at r.1.contents.shared.host.map (0x1400 ∷ 0x1401 ∷ 0x1402 ∷ [])
    ≡ Unmapped ∷ leaf RWX 0x1401 SharedOwned ∷ Unmapped ∷ [])
    × (at r.1.contents.shared.hyp.map (0x4001400 ∷ 0x4001401 ∷ 0x4001402 ∷ [])
    ≡ Unmapped ∷ leaf RW 0x1401 SharedBorrowed ∷ Unmapped ∷ [])
    × (r.1.contents.shared.host.table (1, 10) ≡ Some 0x1610)
    × (r.1.contents.shared.hyp.table (1, 0x2000a) ≡ Some 0x1612)
    × (r.1.contents.shared.free ≡ 0x1620 ∷ [])

-- an Owned page can be shared as well, and tables that exist take no frame
abbrev pub ShareHypNear : Type 0
ShareHypNear =
    let r = predict_step (small 1) scene 2 (ShareHyp 0x1000) in
    (r.0 ≡ ok)
    × (at r.1.contents.shared.host.map (0xfff ∷ 0x1000 ∷ 0x1001 ∷ [])
    ≡ Unmapped ∷ leaf RWX 0x1000 SharedOwned ∷ leaf RWX 0x1001 SharedOwned ∷ [])
    × (at r.1.contents.shared.hyp.map (0x4001000 ∷ 0x4001001 ∷ [])
    ≡ leaf RW 0x1000 SharedBorrowed ∷ leaf RW 0x1001 SharedBorrowed ∷ [])
    × (r.1.contents.shared.free ≡ 0x1610 ∷ 0x1612 ∷ 0x1620 ∷ [])

-- two free frames are enough for a share that needs two tables
abbrev pub ShareHypEnough : Type 0
ShareHypEnough = let r =
    predict_step (small 1) (with_free (0x1615 ∷ 0x1630 ∷ []) scene) 2 (ShareHyp 0x1401) in
    (r.0 ≡ ok) × (r.1.contents.shared.free ≡ [])

-- a share is refused: no memory frame; a page that is shared, with a guest too, borrowed or
-- another's; a page that the hypervisor alone maps; too few free frames
abbrev pub ShareHypRefused : Type 0
ShareHypRefused =
    Refuses (small 1) scene 2 (ShareHyp 0x900) Invalid
    × Refuses (small 1) scene 2 (ShareHyp 0xfff) Invalid
    × Refuses (small 1) scene 2 (ShareHyp 0x1800) Invalid
    × Refuses (small 1) scene 2 (ShareHyp 0x1001) Perm
    × Refuses (small 1) scene 2 (ShareHyp 0x1006) Perm
    × Refuses (small 1) scene 2 (ShareHyp 0x1007) Perm
    × Refuses (small 1) scene 2 (ShareHyp 0x1009) Perm
    × Refuses (small 1) scene 2 (ShareHyp 0x1008) Perm
    × Refuses (small 1) (with_free [] scene) 2 (ShareHyp 0x1300) Perm
    × Refuses (small 1) (with_free [] scene) 2 (ShareHyp 0x1401) NoPool
    × Refuses (small 1) (with_free (0x1610 ∷ []) scene) 2 (ShareHyp 0x1401) NoPool

-- the host has its page for itself again, and the hypervisor's page is unmapped; tables with other
-- pages stay
abbrev pub UnshareHypMade : Type 0
UnshareHypMade =
    let r = predict_step (small 1) scene 2 (UnshareHyp 0x1001) in
    (r.0 ≡ ok) × SharedAlone scene 2 r.1
    × (at r.1.contents.shared.host.map (0x1000 ∷ 0x1001 ∷ 0x1002 ∷ [])
    ≡ leaf RWX 0x1000 Owned ∷ leaf RWX 0x1001 Owned ∷ annotation 1 ∷ [])
    × (at r.1.contents.shared.hyp.map (0x4001000 ∷ 0x4001001 ∷ 0x4001002 ∷ [])
    ≡ Unmapped ∷ Unmapped ∷ leaf RW 0x1002 Owned ∷ [])
    × (r.1.contents.shared.free ≡ 0x1610 ∷ 0x1612 ∷ 0x1620 ∷ [])

-- if it was the last page of the hypervisor's table, that table goes, and its frame comes back to
-- its place in the pool's order; the roots and the host's table stay
abbrev pub UnshareHypRemoves : Type 0
UnshareHypRemoves =
    let r = predict_step (small 1) lonely 2 (UnshareHyp 0x1001) in
    (r.0 ≡ ok)
    × (r.1.contents.shared.hyp.table (1, 0x20008) ≡ None)
    × (r.1.contents.shared.hyp.table (2, 0) ≡ Some 0x1601)
    × (r.1.contents.shared.host.table (1, 8) ≡ Some 0x1602)
    × (r.1.contents.shared.free ≡ 0x1610 ∷ 0x1611 ∷ 0x1612 ∷ 0x1620 ∷ [])

-- it is refused: no memory frame, though it isn't shared either; a host's page that is unmapped,
-- owned or borrowed; one that isn't borrowed by the hypervisor but by a guest, or owned by it
abbrev pub UnshareHypRefused : Type 0
UnshareHypRefused =
    Refuses (small 1) scene 2 (UnshareHyp 0x900) Invalid
    × Refuses (small 1) scene 2 (UnshareHyp 0x1800) Invalid
    × Refuses (small 1) scene 2 (UnshareHyp 0x1400) Perm
    × Refuses (small 1) scene 2 (UnshareHyp 0x1010) Perm
    × Refuses (small 1) scene 2 (UnshareHyp 0x1007) Perm
    × Refuses (small 1) scene 2 (UnshareHyp 0x1006) Perm
    × Refuses (small 1) scene 2 (UnshareHyp 0x1011) Perm
    × Refuses (small 1) scene 2 (UnshareHyp 0x1002) Perm

-- a donation annotates the host's range and maps the hypervisor's, frame by frame
abbrev pub DonateHypMade : Type 0
DonateHypMade =
    let r = predict_step (small 1) scene 2 (DonateHyp 0x1410 3) in
    (r.0 ≡ ok) × SharedAlone scene 2 r.1
    × (at r.1.contents.shared.host.map (0x140f ∷ 0x1410 ∷ 0x1412 ∷ 0x1413 ∷ [])
    ≡ Unmapped ∷ annotation 1 ∷ annotation 1 ∷ Unmapped ∷ [])
    × (at r.1.contents.shared.hyp.map (0x400140f ∷ 0x4001410 ∷ 0x4001412 ∷ 0x4001413 ∷ [])
    ≡ Unmapped ∷ leaf RW 0x1410 Owned ∷ leaf RW 0x1412 Owned ∷ Unmapped ∷ [])
    × (r.1.contents.shared.free ≡ 0x1620 ∷ [])

-- a whole block of 512 pages is one word in each tree, and takes no table
abbrev pub DonateHypBlock : Type 0
DonateHypBlock =
    let r = predict_step (small 1) (with_free [] scene) 2 (DonateHyp 0x1400 512) in
    (r.0 ≡ ok)
    × (at r.1.contents.shared.host.map (0x1400 ∷ 0x15ff ∷ [])
    ≡ annotation 1 ∷ annotation 1 ∷ [])
    × (r.1.contents.shared.host.table (1, 10) ≡ None)
    × (at r.1.contents.shared.hyp.map (0x4001400 ∷ 0x40015ff ∷ [])
    ≡ leaf RW 0x1400 Owned ∷ leaf RW 0x15ff Owned ∷ [])

-- a donation is refused: no page or over 512, pages that aren't memory, though others aren't free;
-- a page that isn't free, or that the hypervisor maps; too few free frames
abbrev pub DonateHypRefused : Type 0
DonateHypRefused =
    Refuses (small 1) scene 2 (DonateHyp 0x1410 0) Invalid
    × Refuses (small 1) scene 2 (DonateHyp 0x1000 513) Invalid
    × Refuses (small 1) scene 2 (DonateHyp 0x17ff 2) Invalid
    × Refuses (small 1) scene 2 (DonateHyp 0xfff 2) Invalid
    × Refuses (small 1) scene 2 (DonateHyp 0x900 1) Invalid
    × Refuses (small 1) scene 2 (DonateHyp 0x1000 2) Perm
    × Refuses (small 1) scene 2 (DonateHyp 0x1008 1) Perm
    × Refuses (small 1) (with_free [] scene) 2 (DonateHyp 0x1200 3) Perm
    × Refuses (small 1) (with_free (0x1610 ∷ []) scene) 2 (DonateHyp 0x1410 3) NoPool

-- a page that the hypervisor gives back is unmapped on both sides
abbrev pub HypDonateHostMade : Type 0
HypDonateHostMade =
    let r = predict_step (small 1) scene 2 (HypDonateHost 0x1002 2) in
    (r.0 ≡ ok) × SharedAlone scene 2 r.1
    × (at r.1.contents.shared.host.map (0x1001 ∷ 0x1002 ∷ 0x1003 ∷ 0x1004 ∷ [])
    ≡ leaf RWX 0x1001 SharedOwned ∷ Unmapped ∷ Unmapped ∷ annotation 1 ∷ [])
    × (at r.1.contents.shared.hyp.map (0x4001001 ∷ 0x4001002 ∷ 0x4001003 ∷ 0x4001004 ∷ [])
    ≡ leaf RW 0x1001 SharedBorrowed ∷ Unmapped ∷ Unmapped ∷ leaf RW 0x1004 Owned ∷ [])
    × (r.1.contents.shared.free ≡ 0x1610 ∷ 0x1612 ∷ 0x1620 ∷ [])

-- a page of a block is given back: both blocks are split, and their other pages stay as they were
abbrev pub HypDonateHostSplits : Type 0
HypDonateHostSplits =
    let r = predict_step (small 1) scene 2 (HypDonateHost 0x1200 1) in
    (r.0 ≡ ok)
    × (at r.1.contents.shared.host.map (0x1200 ∷ 0x1201 ∷ 0x13ff ∷ [])
    ≡ Unmapped ∷ annotation 1 ∷ annotation 1 ∷ [])
    × (at r.1.contents.shared.hyp.map (0x4001200 ∷ 0x4001201 ∷ 0x40013ff ∷ [])
    ≡ Unmapped ∷ leaf RW 0x1201 Owned ∷ leaf RW 0x13ff Owned ∷ [])
    × (r.1.contents.shared.host.table (1, 9) ≡ Some 0x1610)
    × (r.1.contents.shared.hyp.table (1, 0x20009) ≡ Some 0x1612)
    × (r.1.contents.shared.free ≡ 0x1620 ∷ [])

-- the last page of both trees' tables is given back: both frames come back, each to its place
abbrev pub HypDonateHostRemoves : Type 0
HypDonateHostRemoves =
    let r = predict_step (small 1) lonely 2 (HypDonateHost 0x1405 1) in
    (r.0 ≡ ok)
    × (r.1.contents.shared.host.table (1, 10) ≡ None)
    × (r.1.contents.shared.hyp.table (1, 0x2000a) ≡ None)
    × (r.1.contents.shared.free ≡ 0x1608 ∷ 0x1610 ∷ 0x1612 ∷ 0x1618 ∷ 0x1620 ∷ [])

-- it is refused: a bad range; a frame of the host's, in a hand or in a pool; a page that the
-- hypervisor doesn't map; a later frame that is in a hand; too few free frames
abbrev pub HypDonateHostRefused : Type 0
HypDonateHostRefused =
    Refuses (small 1) scene 2 (HypDonateHost 0x1002 0) Invalid
    × Refuses (small 1) scene 2 (HypDonateHost 0x1000 513) Invalid
    × Refuses (small 1) scene 2 (HypDonateHost 0x900 1) Invalid
    × Refuses (small 1) scene 2 (HypDonateHost 0x1011 1) Perm
    × Refuses (small 1) scene 2 (HypDonateHost 0x1004 1) Perm
    × Refuses (small 1) scene 2 (HypDonateHost 0x1610 1) Perm
    × Refuses (small 1) scene 2 (HypDonateHost 0x1012 1) Perm
    × Refuses (small 1) scene 2 (HypDonateHost 0x1003 2) Perm
    × Refuses (small 1) (with_free (0x1610 ∷ []) scene) 2 (HypDonateHost 0x1200 1) NoPool
