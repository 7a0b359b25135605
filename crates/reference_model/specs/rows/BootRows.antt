-- Worked rows of the boot, and of shares after it, in trees of three levels: the frames that tables
-- get, and those that are left.
use Rattle.std.specs.Prelude.{◌≡◌, [], ◌∷◌, Some, None}
use Rattle.descriptor.specs.declared.Prot.TheVariants.{RW, RWX}
use Rattle.descriptor.specs.declared.State.TheVariants.{Owned, SharedOwned, SharedBorrowed}
use Rattle.page_state.specs.declared.entry.Entry.TheVariants.{Unmapped}
use Rattle.page_state.specs.declared.row.Usage.TheVariants.{SharedPool}
use Rattle.call_table.specs.declared.step.Step.TheVariants.{ShareHyp, UnshareHyp}
use Rattle.page_state.specs.Trees.{frames_from}
use Rattle.reference_model.specs.model.Boot.{boot}
use Rattle.page_state.specs.EntryTests.{leaf, annotation}
use Rattle.reference_model.specs.rows.Examples.{layout}
use Rattle.reference_model.specs.model.State.{plain_row, no_vms, no_guest, no_cpu, all_rooms}
use Rattle.reference_model.specs.model.Step.{predict_step}
use Rattle.reference_model.specs.rows.Scene.{small, ok, at, row}

-- the host's root has the lowest frame and the hypervisor's the next; then come the host's tables
-- and the hypervisor's, each parent before its child
abbrev pub BootTables : Type 0
BootTables =
    let s = (boot (layout 64 64)).contents.shared in
    (s.host.table (3, 0) ≡ Some 0x40600)
    × (s.hyp.table (3, 0) ≡ Some 0x40601)
    × (s.host.table (2, 1) ≡ Some 0x40602)
    × (s.host.table (1, 0x203) ≡ Some 0x40603)
    × (s.hyp.table (2, 0x101) ≡ Some 0x40604)
    × (s.hyp.table (1, 0x20203) ≡ Some 0x40605)
    × (s.host.table (1, 0x202) ≡ None)
    × (s.hyp.table (2, 1) ≡ None)
    × (s.free ≡ frames_from 0x40606 58)

-- the carve-out is the hypervisor's, and nothing else is mapped; all slots, guests and CPUs are
-- empty, and each log has all its room
abbrev pub BootMaps : Type 0
BootMaps =
    let s = boot (layout 64 64) in
    (at s.contents.shared.host.map (0x405ff ∷ 0x40600 ∷ 0x4063f ∷ 0x40640 ∷ [])
    ≡ Unmapped ∷ annotation 1 ∷ annotation 1 ∷ Unmapped ∷ [])
    × (at s.contents.shared.hyp.map (0x40405ff ∷ 0x4040600 ∷ 0x404063f ∷ 0x4040640 ∷ [])
    ≡ Unmapped ∷ leaf RW 0x40600 Owned ∷ leaf RW 0x4063f Owned ∷ Unmapped ∷ [])
    × (s.contents.vms ≡ no_vms)
    × (s.contents.guest 0 ≡ no_guest)
    × (s.contents.cpu 0 ≡ no_cpu)
    × (s.rooms ≡ all_rooms 64)
    × ((s.contents.vms.slot 63).generation ≡ 1)

-- a carve-out of a whole block is one word in each tree, so that each needs one table less
abbrev pub BootBlock : Type 0
BootBlock =
    let s = (boot (layout 512 64)).contents.shared in
    (s.host.table (2, 1) ≡ Some 0x40602)
    × (s.host.table (1, 0x203) ≡ None)
    × (s.hyp.table (2, 0x101) ≡ Some 0x40603)
    × (s.hyp.table (1, 0x20203) ≡ None)
    × (s.free ≡ frames_from 0x40604 508)

-- in trees of one level: the rows of the roots, of a free frame, and of memory outside the
-- carve-out
abbrev pub BootOwners : Type 0
BootOwners =
    let s = (boot (small 0)).contents.shared in
    (s.row 0x1600 ≡ row 1 SharedPool)
    × (s.row 0x1601 ≡ row 1 SharedPool)
    × (s.row 0x163f ≡ row 1 SharedPool)
    × (s.row 0x1640 ≡ plain_row)
    × (s.row 0x900 ≡ plain_row)

-- a share after the boot: the host's table comes first
abbrev pub ShareTables : Type 0
ShareTables =
    let r = predict_step (layout 64 64) (boot (layout 64 64)) 0 (ShareHyp 0x40100) in
    let s = r.1.contents.shared in
    (r.0 ≡ ok)
    × (s.host.table (1, 0x200) ≡ Some 0x40606)
    × (s.hyp.table (1, 0x20200) ≡ Some 0x40607)
    × (s.free ≡ frames_from 0x40608 56)
    × (at s.host.map (0x400ff ∷ 0x40100 ∷ 0x40101 ∷ [])
    ≡ Unmapped ∷ leaf RWX 0x40100 SharedOwned ∷ Unmapped ∷ [])
    × (at s.hyp.map (0x40400ff ∷ 0x4040100 ∷ 0x4040101 ∷ [])
    ≡ Unmapped ∷ leaf RW 0x40100 SharedBorrowed ∷ Unmapped ∷ [])

-- and the unshare after it: the hypervisor's table goes and its frame comes back first, while the
-- host's stays
abbrev pub UnshareTables : Type 0
UnshareTables =
    let q = predict_step (layout 64 64) (boot (layout 64 64)) 0 (ShareHyp 0x40100) in
    let r = predict_step (layout 64 64) q.1 0 (UnshareHyp 0x40100) in
    let s = r.1.contents.shared in
    (r.0 ≡ ok)
    × (s.host.table (1, 0x200) ≡ Some 0x40606)
    × (s.hyp.table (1, 0x20200) ≡ None)
    × (s.free ≡ 0x40607 ∷ frames_from 0x40608 56)
    × (s.host.map 0x40100 ≡ leaf RWX 0x40100 Owned) × (s.hyp.map 0x4040100 ≡ Unmapped)

-- a carve-out of eight frames suffices for the boot and a share, and the pool is then empty
abbrev pub ShareEnough : Type 0
ShareEnough = let r = predict_step (layout 8 64) (boot (layout 8 64)) 0 (ShareHyp 0x40100) in
    (r.0 ≡ ok)
    × (r.1.contents.shared.free ≡ [])
    × (r.1.contents.shared.hyp.table (1, 0x20200) ≡ Some 0x40607)
