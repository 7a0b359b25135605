-- Worked rows of the calls that fill and empty a CPU's hand, in trees of two levels.
use Rattle.std.specs.Prelude.{◌≡◌, [], ◌∷◌, Some, None}
use Rattle.descriptor.specs.declared.Prot.TheVariants.{RW, RWX}
use Rattle.descriptor.specs.declared.State.TheVariants.{Owned, SharedOwned}
use Rattle.reference_model.specs.declared.changes.Stage.TheVariants.{Booked, Installed}
use Rattle.page_state.specs.declared.entry.Entry.TheVariants.{Unmapped}
use Rattle.call_table.specs.declared.reply.Refusal.TheVariants.{Perm, NoVm, Busy, Invalid, NoPool}
use Rattle.call_table.specs.declared.step.Step.TheVariants.{Fund, Unfund, Install, Topup}
use Rattle.call_table.specs.declared.step.VmKind.TheVariants.{Protected, Plain as PlainVm}
use Rattle.page_state.specs.EntryTests.{leaf, annotation}
use Rattle.reference_model.specs.model.State.{live, no_cpu}
use Rattle.page_state.specs.Trees.{root_tree}
use Rattle.reference_model.specs.model.Step.{predict_step}
use Rattle.reference_model.specs.rows.Scene.{small, ok, range, vm, at, Refuses}
use Rattle.reference_model.specs.rows.SceneState.{scene, protected_guest, dying_guest, ticketed, with_free, with_cpu}

-- a fund annotates the host's range and maps the hypervisor's, and the CPU has the range in its
-- hand; its ticket stays
abbrev pub FundMade : Type 0
FundMade =
    let r = predict_step (small 1) scene 7 (Fund 0x1410 3) in
    (r.0 ≡ ok)
    × (at r.1.contents.shared.host.map (0x140f ∷ 0x1410 ∷ 0x1412 ∷ 0x1413 ∷ [])
    ≡ Unmapped ∷ annotation 1 ∷ annotation 1 ∷ Unmapped ∷ [])
    × (at r.1.contents.shared.hyp.map (0x400140f ∷ 0x4001410 ∷ 0x4001412 ∷ 0x4001413 ∷ [])
    ≡ Unmapped ∷ leaf RW 0x1410 Owned ∷ leaf RW 0x1412 Owned ∷ Unmapped ∷ [])
    × (r.1.contents.cpu 7 ≡ record (ticketed 9 1 Installed) { hand = Some (range 0x1410 3) })
    × (r.1.contents.shared.host.table (1, 10) ≡ Some 0x1610)
    × (r.1.contents.shared.hyp.table (1, 0x2000a) ≡ Some 0x1612)
    × (r.1.contents.shared.free ≡ 0x1620 ∷ [])

-- a fund is refused: a bad range, though the hand is full; a full hand, though the pages aren't
-- free; a page that isn't free, or that the hypervisor maps; too few free frames
abbrev pub FundRefused : Type 0
FundRefused =
    Refuses (small 1) scene 2 (Fund 0x1410 0) Invalid
    × Refuses (small 1) scene 2 (Fund 0x1000 513) Invalid
    × Refuses (small 1) scene 2 (Fund 0x900 1) Invalid
    × Refuses (small 1) scene 3 (Fund 0x17ff 2) Invalid
    × Refuses (small 1) scene 3 (Fund 0x1001 1) Busy
    × Refuses (small 1) scene 3 (Fund 0x1410 3) Busy
    × Refuses (small 1) scene 2 (Fund 0x1000 2) Perm
    × Refuses (small 1) scene 2 (Fund 0x1008 1) Perm
    × Refuses (small 1) (with_free [] scene) 2 (Fund 0x1200 3) Perm
    × Refuses (small 1) (with_free (0x1610 ∷ []) scene) 2 (Fund 0x1410 3) NoPool

-- the hand's range is unmapped on both sides, and the hand is empty
abbrev pub UnfundMade : Type 0
UnfundMade =
    let r = predict_step (small 1) scene 3 Unfund in
    (r.0 ≡ ok) × (r.1.contents.cpu 3 ≡ no_cpu)
    × (at r.1.contents.shared.host.map (0x1003 ∷ 0x1004 ∷ 0x1005 ∷ 0x1006 ∷ [])
    ≡ annotation 1 ∷ Unmapped ∷ Unmapped ∷ leaf RWX 0x1006 SharedOwned ∷ [])
    × (at r.1.contents.shared.hyp.map (0x4001003 ∷ 0x4001004 ∷ 0x4001005 ∷ 0x4001006 ∷ [])
    ≡ leaf RW 0x1003 Owned ∷ Unmapped ∷ Unmapped ∷ Unmapped ∷ [])
    × (r.1.contents.shared.free ≡ 0x1610 ∷ 0x1612 ∷ 0x1620 ∷ [])

-- if the hand lies in a block, the block is split in both trees; the CPU's ticket stays
abbrev pub UnfundSplits : Type 0
UnfundSplits =
    let r = predict_step (small 1) scene 4 Unfund in
    (r.0 ≡ ok) × (r.1.contents.cpu 4 ≡ ticketed 6 9 Booked)
    × (at r.1.contents.shared.host.map (0x172f ∷ 0x1730 ∷ 0x1732 ∷ 0x1733 ∷ [])
    ≡ annotation 1 ∷ Unmapped ∷ Unmapped ∷ annotation 1 ∷ [])
    × (at r.1.contents.shared.hyp.map (0x400172f ∷ 0x4001730 ∷ 0x4001732 ∷ 0x4001733 ∷ [])
    ≡ leaf RW 0x172f Owned ∷ Unmapped ∷ Unmapped ∷ leaf RW 0x1733 Owned ∷ [])
    × (r.1.contents.shared.host.table (1, 11) ≡ Some 0x1610)
    × (r.1.contents.shared.hyp.table (1, 0x2000b) ≡ Some 0x1612)
    × (r.1.contents.shared.free ≡ 0x1620 ∷ [])

-- it is refused: an empty hand; too few free frames for a block's split
abbrev pub UnfundRefused : Type 0
UnfundRefused =
    Refuses (small 1) scene 2 Unfund Perm
    × Refuses (small 1) (with_free (0x1610 ∷ []) scene) 4 Unfund NoPool

-- an installed guest is Live with the ticket's generation and kind; its root is the hand's lowest
-- frame, its pool the others; the hand is empty, and no map of the host's changes
abbrev pub InstallMade : Type 0
InstallMade =
    let r = predict_step (small 1) scene 4 Install in
    (r.0 ≡ ok)
    × (r.1.contents.guest 6
    ≡ record {
      phase = live;
      generation = 9;
      kind = Protected;
      tree = root_tree 1 0x1730;
      free = 0x1731
          ∷ 0x1732 ∷ [];
    })
    × ((r.1.contents.guest 6).tree.table (2, 0) ≡ Some 0x1730)
    × ((r.1.contents.guest 6).tree.table (1, 0) ≡ None)
    × ((r.1.contents.guest 6).tree.map 0 ≡ Unmapped)
    × (r.1.contents.cpu 4 ≡ ticketed 6 9 Installed)
    × (r.1.contents.shared.host.map 0x1730 ≡ annotation 1)
    × (r.1.contents.shared.hyp.map 0x4001730 ≡ leaf RW 0x1730 Owned)
    × (r.1.contents.shared.free ≡ 0x1610 ∷ 0x1612 ∷ 0x1620 ∷ [])
    × (r.1.contents.vms ≡ scene.contents.vms)
    × (r.1.contents.guest 3 ≡ protected_guest)

-- the kind is the ticket's, and a hand of one frame is the root alone
abbrev pub InstallPlain : Type 0
InstallPlain =
    let k =
    record no_cpu {
      hand = Some (range 0x1738 1);
      ticket = Some (record { vm = vm 6 9; kind = PlainVm; stage = Booked });
    } in
    let r = predict_step (small 1) (with_cpu 4 k scene) 4 Install in
    (r.0 ≡ ok)
    × (r.1.contents.guest 6
    ≡ record {
      phase = live;
      generation = 9;
      kind = PlainVm;
      tree = root_tree 1 0x1738;
      free = [];
    })

-- it is refused: no ticket, or one that isn't Booked, whether the hand is full or empty; an empty
-- hand
abbrev pub InstallRefused : Type 0
InstallRefused =
    Refuses (small 1) scene 3 Install NoVm
    × Refuses (small 1) scene 2 Install NoVm
    × Refuses (small 1) scene 7 Install NoVm
    × Refuses (small 1)
    (with_cpu 7 (record (ticketed 9 1 Installed) { hand = Some (range 0x1730 3) }) scene) 7
    Install NoVm
    × Refuses (small 1) (with_cpu 4 (ticketed 6 9 Booked) scene) 4 Install Perm

-- the guest's pool gets the hand's frames, in order among its own, and the hand is empty; nothing
-- else of the guest changes, and no map
abbrev pub TopupMade : Type 0
TopupMade =
    let r =
    predict_step (small 1)
    (with_cpu 7 (record (ticketed 9 1 Installed) { hand = Some (range 0x1703 2) }) scene) 7
    (Topup (vm 3 5)) in
    (r.0 ≡ ok)
    × (r.1.contents.guest 3
    ≡ record protected_guest { free = 0x1702 ∷ 0x1703 ∷ 0x1704 ∷ 0x1705 ∷ [] })
    × (r.1.contents.cpu 7 ≡ ticketed 9 1 Installed)
    × (r.1.contents.shared.host.map 0x1703 ≡ annotation 1)
    × (r.1.contents.shared.hyp.map 0x4001703 ≡ leaf RW 0x1703 Owned)
    × (r.1.contents.shared.free ≡ 0x1610 ∷ 0x1612 ∷ 0x1620 ∷ [])
    × (r.1.contents.vms ≡ scene.contents.vms)

-- so does a Dying guest's
abbrev pub TopupDying : Type 0
TopupDying =
    let r =
    predict_step (small 1) (with_cpu 7 (record no_cpu { hand = Some (range 0x1703 2) }) scene) 7
    (Topup (vm 5 3)) in
    (r.0 ≡ ok)
    × (r.1.contents.guest 5
    ≡ record dying_guest { free = 0x1703 ∷ 0x1704 ∷ 0x1722 ∷ 0x1724 ∷ [] })
    × (r.1.contents.cpu 7 ≡ no_cpu)

-- with two tables and two free frames, 508 more make 512, the most
abbrev pub TopupEnough : Type 0
TopupEnough =
    (predict_step (small 1) (with_cpu 2 (record no_cpu { hand = Some (range 0x1200 508) }) scene) 2
    (Topup (vm 3 5))).0
    ≡ ok

-- it is refused: no such slot, though there is no hand either; another generation of a Live guest
-- and of a Dying one, an Empty one; an empty hand; over 512 frames held
abbrev pub TopupRefused : Type 0
TopupRefused =
    Refuses (small 1) scene 2 (Topup (vm 64 5)) Invalid
    × Refuses (small 1) scene 2 (Topup (vm 3 4)) NoVm
    × Refuses (small 1) scene 3 (Topup (vm 3 6)) NoVm
    × Refuses (small 1) scene 3 (Topup (vm 5 2)) NoVm
    × Refuses (small 1) scene 3 (Topup (vm 6 0)) NoVm
    × Refuses (small 1) scene 2 (Topup (vm 3 5)) Perm
    × Refuses (small 1) (with_cpu 2 (record no_cpu { hand = Some (range 0x1200 509) }) scene) 2
    (Topup (vm 3 5)) Perm
