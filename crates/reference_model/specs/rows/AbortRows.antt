-- Worked rows of the calls that map a page for the host, and of the calls that read, most of them
-- in trees of two levels.
use Rattle.std.specs.Prelude.{◌≡◌, ℕ, [], ◌∷◌, Some, None}
use Rattle.descriptor.specs.declared.Prot.TheVariants.{RW, RWX}
use Rattle.descriptor.specs.declared.State.TheVariants.{Owned, SharedBorrowed}
use Rattle.page_state.specs.declared.entry.Entry.TheVariants.{Unmapped}
use Rattle.page_state.specs.declared.layout.RegionKind.TheVariants.{Memory as MemoryKind, Device as DeviceKind}
use Rattle.call_table.specs.declared.reply.Refusal.TheVariants.{Perm, Invalid, NoPool}
use Rattle.call_table.specs.declared.reply.Reply.TheVariants.{Done}
use Rattle.call_table.specs.declared.reply.Value.TheVariants.{Entry as EntryOf, Row as RowOf}
use Rattle.page_state.specs.declared.row.Usage.TheVariants.{InHand}
use Rattle.call_table.specs.declared.step.Step.TheVariants.{HostAbort, HostTranslate, HypTranslate, OwnerOf}
use Rattle.reference_model.specs.model.Boot.{boot}
use Rattle.page_state.specs.EntryTests.{leaf, device_leaf, annotation}
use Rattle.page_state.specs.Layouts.{Layout}
use Rattle.reference_model.specs.model.State.{plain_row}
use Rattle.reference_model.specs.model.Step.{predict_step}
use Rattle.reference_model.specs.rows.Scene.{small, ok, range, at, row, Refuses, SharedAlone}
use Rattle.reference_model.specs.rows.SceneState.{scene, host_map, with_free}

-- a page of an empty block in memory: the whole block of 512 pages is mapped, as one word
abbrev pub HostAbortBlock : Type 0
HostAbortBlock =
    let r = predict_step (small 1) (with_free [] scene) 2 (HostAbort 0x1405) in
    (r.0 ≡ ok) × SharedAlone scene 2 r.1
    × (at r.1.contents.shared.host.map (0x13ff ∷ 0x1400 ∷ 0x1405 ∷ 0x15ff ∷ 0x1600 ∷ [])
    ≡ annotation 1 ∷ leaf RWX 0x1400 Owned ∷ leaf RWX 0x1405 Owned ∷ leaf RWX 0x15ff Owned
    ∷ annotation 1 ∷ [])
    × (r.1.contents.shared.host.table (1, 10) ≡ None)
    × (r.1.contents.shared.hyp.map 0x4001405 ≡ Unmapped)

-- a page of a block in which others are mapped is mapped alone
abbrev pub HostAbortPage : Type 0
HostAbortPage =
    let r = predict_step (small 1) scene 2 (HostAbort 0x1008) in
    (r.0 ≡ ok)
    × (at r.1.contents.shared.host.map (0x1007 ∷ 0x1008 ∷ 0x1009 ∷ [])
    ≡ leaf RWX 0x1007 SharedBorrowed ∷ leaf RWX 0x1008 Owned ∷ annotation 5 ∷ [])
    × (r.1.contents.shared.free ≡ 0x1610 ∷ 0x1612 ∷ 0x1620 ∷ [])

-- a mapped page is Ok and nothing changes, whatever its state
abbrev pub HostAbortKeeps : Type 0
HostAbortKeeps =
    let r = predict_step (small 1) scene 2 (HostAbort 0x1001) in
    (r.0 ≡ ok)
    × SharedAlone scene 2 r.1
    × (r.1.contents.shared.host.map ≡ host_map)
    × (r.1.contents.shared.free ≡ 0x1610 ∷ 0x1612 ∷ 0x1620 ∷ [])
    × ((predict_step (small 1) scene 2 (HostAbort 0x1007)).0 ≡ ok)
    × ((predict_step (small 1) scene 2 (HostAbort 0x1000)).0 ≡ ok)

-- a page of a device region that has no whole block is mapped alone, up to the region's edges
abbrev pub HostAbortDevice : Type 0
HostAbortDevice =
    let r = predict_step (small 1) scene 2 (HostAbort 0x905) in
    (r.0 ≡ ok)
    × (at r.1.contents.shared.host.map (0x904 ∷ 0x905 ∷ 0x906 ∷ [])
    ≡ Unmapped ∷ device_leaf 0x905 ∷ Unmapped ∷ [])
    × (r.1.contents.shared.host.table (1, 4) ≡ Some 0x1610)
    × (r.1.contents.shared.free ≡ 0x1612 ∷ 0x1620 ∷ [])
    × ((predict_step (small 1) scene 2 (HostAbort 0x900)).0 ≡ ok)
    × ((predict_step (small 1) scene 2 (HostAbort 0x90f)).0 ≡ ok)

-- two device regions that meet at 0xb00
abbrev pub devices : Layout
devices = record (small 1) {
  memory = record {
    regions =
        record { kind = MemoryKind; pages = range 0x1000 0x800 }
        ∷ record { kind = DeviceKind; pages = range 0x800 0x300 }
        ∷ record { kind = DeviceKind; pages = range 0xb00 0x100 } ∷ [];
    carve = range 0x1600 0x40;
  };
}

-- a page of an empty block of a device region: the block is mapped as one word; if the block lies
-- in two regions, only the page is mapped
abbrev pub HostAbortDeviceBlock : Type 0
HostAbortDeviceBlock =
    let r = predict_step devices (with_free [] scene) 2 (HostAbort 0x905) in
    let q = predict_step devices scene 2 (HostAbort 0xa05) in
    (r.0 ≡ ok) × SharedAlone scene 2 r.1
    × (at r.1.contents.shared.host.map (0x7ff ∷ 0x800 ∷ 0x905 ∷ 0x9ff ∷ 0xa00 ∷ [])
    ≡ Unmapped ∷ device_leaf 0x800 ∷ device_leaf 0x905 ∷ device_leaf 0x9ff ∷ Unmapped ∷ [])
    × (r.1.contents.shared.host.table (1, 4) ≡ None)
    × (q.0 ≡ ok)
    × (at q.1.contents.shared.host.map (0xa04 ∷ 0xa05 ∷ 0xa06 ∷ [])
    ≡ Unmapped ∷ device_leaf 0xa05 ∷ Unmapped ∷ [])

-- memory of two regions that meet at 0x1480
abbrev pub halves : Layout
halves = record (small 1) {
  memory = record {
    regions =
        record { kind = MemoryKind; pages = range 0x1000 0x480 }
        ∷ record { kind = MemoryKind; pages = range 0x1480 0x380 } ∷ [];
    carve = range 0x1600 0x40;
  };
}

-- if a block lies in two regions, only one page is mapped on either side of their edge
abbrev pub HostAbortRegions : Type 0
HostAbortRegions =
    let r = predict_step halves scene 2 (HostAbort 0x147f) in
    let q = predict_step halves scene 2 (HostAbort 0x1480) in
    (r.0 ≡ ok)
    × (at r.1.contents.shared.host.map (0x147e ∷ 0x147f ∷ 0x1480 ∷ [])
    ≡ Unmapped ∷ leaf RWX 0x147f Owned ∷ Unmapped ∷ [])
    × (q.0 ≡ ok)
    × (at q.1.contents.shared.host.map (0x147f ∷ 0x1480 ∷ 0x1481 ∷ [])
    ≡ Unmapped ∷ leaf RWX 0x1480 Owned ∷ Unmapped ∷ [])

-- two stretches of memory in trees of three levels, 0x40000 pages apart, with a carve-out of
-- `carve` frames in the second
abbrev pub stretches : ℕ → Layout
stretches carve = record (small 2) {
  memory = record {
    regions =
        record { kind = MemoryKind; pages = range 0x40000 0x800 }
        ∷ record { kind = MemoryKind; pages = range 0x80000 0x800 } ∷ [];
    carve = range 0x80000 carve;
  };
}

-- a block needs a table above it, and one free frame is enough
abbrev pub HostAbortTable : Type 0
HostAbortTable =
    let r = predict_step (stretches 7) (boot (stretches 7)) 0 (HostAbort 0x40201) in
    (r.0 ≡ ok)
    × (at r.1.contents.shared.host.map (0x401ff ∷ 0x40200 ∷ 0x403ff ∷ 0x40400 ∷ [])
    ≡ Unmapped ∷ leaf RWX 0x40200 Owned ∷ leaf RWX 0x403ff Owned ∷ Unmapped ∷ [])
    × (r.1.contents.shared.host.table (2, 1) ≡ Some 0x80006) × (r.1.contents.shared.free ≡ [])

-- an abort is refused: a page in no region, right before and after each; an annotated page, the
-- hypervisor's or a guest's; too few free frames, and no smaller block is tried
abbrev pub HostAbortRefused : Type 0
HostAbortRefused =
    Refuses (small 1) scene 2 (HostAbort 0x8ff) Invalid
    × Refuses (small 1) scene 2 (HostAbort 0x910) Invalid
    × Refuses (small 1) scene 2 (HostAbort 0xfff) Invalid
    × Refuses (small 1) scene 2 (HostAbort 0x1800) Invalid
    × Refuses (small 1) scene 2 (HostAbort 0x1002) Perm
    × Refuses (small 1) scene 2 (HostAbort 0x1009) Perm
    × Refuses (small 1) scene 2 (HostAbort 0x1200) Perm
    × Refuses (small 1) (with_free [] scene) 2 (HostAbort 0x905) NoPool
    × Refuses (stretches 6) (boot (stretches 6)) 0 (HostAbort 0x40201) NoPool

-- the reply has the host's entry of a page, up to the last page of the table's, and nothing changes
abbrev pub HostTranslateMade : Type 0
HostTranslateMade =
    let r = predict_step (small 1) scene 2 (HostTranslate 0x1009) in
    (r.0 ≡ Done (EntryOf (annotation 5)))
    × SharedAlone scene 2 r.1
    × (r.1.contents.shared.host.map ≡ host_map)
    × (r.1.contents.shared.free ≡ 0x1610 ∷ 0x1612 ∷ 0x1620 ∷ [])
    × ((predict_step (small 1) scene 2 (HostTranslate 0x1007)).0
    ≡ Done (EntryOf (leaf RWX 0x1007 SharedBorrowed)))
    × ((predict_step (small 1) scene 2 (HostTranslate 0x3ffff)).0 ≡ Done (EntryOf Unmapped))
    × ((predict_step (small 2) scene 2 (HostTranslate 0x7ffffff)).0 ≡ Done (EntryOf Unmapped))

-- the reply has the hypervisor's entry of that very page
abbrev pub HypTranslateMade : Type 0
HypTranslateMade =
    let r = predict_step (small 2) scene 2 (HypTranslate 0x4001001) in
    (r.0 ≡ Done (EntryOf (leaf RW 0x1001 SharedBorrowed)))
    × SharedAlone scene 2 r.1
    × (r.1.contents.shared.host.map ≡ host_map)
    × (r.1.contents.shared.free ≡ 0x1610 ∷ 0x1612 ∷ 0x1620 ∷ [])
    × ((predict_step (small 2) scene 2 (HypTranslate 0x1001)).0 ≡ Done (EntryOf Unmapped))
    × ((predict_step (small 2) scene 2 (HypTranslate 0x7ffffff)).0 ≡ Done (EntryOf Unmapped))

-- a page past the tables' pages is refused
abbrev pub TranslateRefused : Type 0
TranslateRefused =
    Refuses (small 1) scene 2 (HostTranslate 0x40000) Invalid
    × Refuses (small 2) scene 2 (HostTranslate 0x8000000) Invalid
    × Refuses (small 1) scene 2 (HypTranslate 0x40000) Invalid
    × Refuses (small 2) scene 2 (HypTranslate 0x8000000) Invalid

-- the reply has the kept row of a memory frame, and nothing changes
abbrev pub OwnerOfMade : Type 0
OwnerOfMade =
    let r = predict_step (small 1) scene 2 (OwnerOf 0x1004) in
    (r.0 ≡ Done (RowOf (row 1 (InHand 3))))
    × SharedAlone scene 2 r.1
    × (r.1.contents.shared.host.map ≡ host_map)
    × (r.1.contents.shared.free ≡ 0x1610 ∷ 0x1612 ∷ 0x1620 ∷ [])
    × ((predict_step (small 1) scene 2 (OwnerOf 0x17ff)).0 ≡ Done (RowOf plain_row))

-- a page that is no memory frame is refused
abbrev pub OwnerOfRefused : Type 0
OwnerOfRefused =
    Refuses (small 1) scene 2 (OwnerOf 0x900) Invalid
    × Refuses (small 1) scene 2 (OwnerOf 0xfff) Invalid
    × Refuses (small 1) scene 2 (OwnerOf 0x1800) Invalid
