-- Worked rows on blocks and guests of 262,144 pages.
use Rattle.std.specs.Prelude.{◌≡◌, ℕ, [], ◌∷◌, Some}
use Rattle.descriptor.specs.declared.Prot.TheVariants.{RWX}
use Rattle.descriptor.specs.declared.State.TheVariants.{Owned}
use Rattle.page_state.specs.declared.entry.Entry.TheVariants.{Unmapped}
use Rattle.page_state.specs.declared.layout.Region.{Region}
use Rattle.page_state.specs.declared.layout.RegionKind.TheVariants.{Memory as MemoryKind}
use Rattle.call_table.specs.declared.reply.Refusal.TheVariants.{NoPool}
use Rattle.call_table.specs.declared.step.Step.TheVariants.{FinishGuest}
use Rattle.reference_model.specs.model.Changes.{change}
use Rattle.page_state.specs.EntryTests.{leaf, annotation}
use Rattle.page_state.specs.Map.{Map, empty_map, update}
use Rattle.reference_model.specs.model.SharedRules.{abort_edit}
use Rattle.reference_model.specs.model.Step.{predict_step}
use Rattle.reference_model.specs.rows.Scene.{small, range, at, Refuses}
use Rattle.reference_model.specs.rows.SceneState.{scene, with_free}

-- a region of memory of `count` pages from 0x40000 on
abbrev pub stretch : ℕ → Region
stretch count = record { kind = MemoryKind; pages = range 0x40000 count }

-- the host's map after a boot whose carve-out is after that region
abbrev pub behind : Map
behind = update empty_map 0x80000 64 (annotation 1)

-- an empty block of 262,144 pages that lies in its region is mapped whole; in a region that is one
-- page shorter, or starts after the block's first page, the empty block of 512 is
abbrev pub HostAbortLargest : Type 0
HostAbortLargest =
    (abort_edit behind (Some (stretch 0x40000)) 0x51234
    ≡ change 0x40000 0x40000 (leaf RWX 0x40000 Owned))
    × (abort_edit behind (Some (stretch 0x3ffff)) 0x51234
    ≡ change 0x51200 512 (leaf RWX 0x51200 Owned))
    × (abort_edit behind (Some (record (stretch 1) { pages = range 0x40001 0x3ffff })) 0x51234
    ≡ change 0x51200 512 (leaf RWX 0x51200 Owned))

-- if a page of the largest block isn't unmapped, the block of 512 is mapped
abbrev pub HostAbortSmaller : Type 0
HostAbortSmaller =
    abort_edit (update behind 0x40100 1 (annotation 2)) (Some (stretch 0x40000)) 0x51234
    ≡ change 0x51200 512 (leaf RWX 0x51200 Owned)

-- the root of a guest lies in a block of the host's, whose split needs a table in each tree: with
-- one free frame the guest isn't finished
abbrev pub FinishGuestShort : Type 0
FinishGuestShort = Refuses (small 1) (with_free (0x1610 ∷ []) scene) 6 FinishGuest NoPool

-- with two it is: both blocks are split, and the root's pages unmapped
abbrev pub FinishGuestSplits : Type 0
FinishGuestSplits =
    let r = predict_step (small 1) scene 6 FinishGuest in
    (at r.1.contents.shared.host.map (0x1740 ∷ 0x1741 ∷ 0x1742 ∷ [])
    ≡ annotation 1 ∷ Unmapped ∷ annotation 1 ∷ [])
    × (r.1.contents.shared.free ≡ 0x1620 ∷ [])
