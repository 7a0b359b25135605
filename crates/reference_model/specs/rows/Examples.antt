-- Worked rows: values of the definitions on small layouts and on states written out, each proved on
-- the contract of `worked_rows`.
use Rattle.std.specs.Prelude.{◌≡◌, ℕ, [], ◌∷◌, length, Some, None}
use Rattle.descriptor.specs.declared.Prot.TheVariants.{RW, RWX}
use Rattle.descriptor.specs.declared.State.TheVariants.{Owned, SharedOwned, SharedBorrowed}
use Rattle.page_state.specs.declared.entry.Entry.{Entry}
use Rattle.page_state.specs.declared.entry.Entry.TheVariants.{Unmapped}
use Rattle.page_state.specs.declared.layout.RegionKind.TheVariants.{Memory as MemoryKind, Device}
use Rattle.call_table.specs.declared.reply.Refusal.TheVariants.{Perm, Invalid, NoPool, LogFull}
use Rattle.call_table.specs.declared.reply.Reply.{Reply}
use Rattle.call_table.specs.declared.reply.Reply.TheVariants.{Refused}
use Rattle.call_table.specs.declared.step.Step.TheVariants.{ShareHyp}
use Rattle.page_state.specs.EntryTests.{leaf, annotation}
use Rattle.page_state.specs.declared.row.Usage.TheVariants.{Plain}
use Rattle.page_state.specs.Map.{empty_map}
use Rattle.reference_model.specs.model.Owner.{row_of, lent_at}
use Rattle.page_state.specs.Trees.{no_tree, root_tree}
use Rattle.reference_model.specs.model.State.{Reference, put_at, no_guest, no_shared, blank}
use Rattle.page_state.specs.Layouts.{Layout}
use Rattle.page_state.specs.Tables.{put, need, returned, edited}
use Rattle.reference_model.specs.model.Step.{predict_step}
use Rattle.reference_model.specs.rows.Scene.{ok}
use Rattle.reference_model.specs.model.Boot.{boot, CanBoot}

-- 0x800 frames of memory from 0x40000 on and 16 device pages, with a carve-out of `carve` frames
-- from 0x40600 on, and logs of `log` calls
abbrev pub layout : ℕ → ℕ → Layout
layout carve log = record {
  memory = record {
    regions =
        record {
          kind = MemoryKind;
          pages = record { first = record { 0 = 0x40000 }; count = 0x800 };
        }
        ∷ (record {
          kind = Device;
          pages = record { first = record { 0 = 0x9000 }; count = 0x10 };
        }
        ∷ []);
    carve = record { first = record { 0 = 0x40600 }; count = carve };
  };
  config = record { cpus = 2; log = log; geometry = 39 };
  depth = 2;
}

-- the free frames of the shared pool
abbrev pub free_count : Reference → ℕ
free_count s = length s.contents.shared.free

-- the reply to a share of the frame by a CPU, and the state after it
abbrev pub share : Layout → Reference → ℕ → ℕ → Reply × Reference
share l s cpu f = predict_step l s cpu (ShareHyp f)

-- the reply to a first share after the boot, and the state after it
abbrev pub first_share : Layout → ℕ → Reply × Reference
first_share l f = share l (boot l) 0 f

-- the need of a change on an empty tree of 39 bits
abbrev pub need_of : ℕ → ℕ → Entry → ℕ
need_of first count entry = need 2 (root_tree 2 0) (put first count entry)

-- two pages on either side of a block's edge need three tables; an aligned block needs none at its
-- own level, unless its frame isn't aligned; a range that isn't mapped needs none
abbrev pub NeedRow : Type 0
NeedRow =
    (need_of 0x401ff 2 (leaf RWX 0x401ff Owned) ≡ 3)
    × (need_of 0x40200 512 (leaf RWX 0x40200 Owned) ≡ 1)
    × (need_of 0x40200 512 (leaf RWX 0x50001 Owned) ≡ 2)
    × (need_of 0x401ff 2 Unmapped ≡ 0)

-- a page of a mapped block changes: the block is split, and its other pages stay as they were
abbrev pub SplitRow : Type 0
SplitRow =
    let block = edited 2 (root_tree 2 0) (put 0x40200 512 (leaf RWX 0x40200 Owned)) (1 ∷ []) in
    let split = edited 2 block (put 0x40300 1 (leaf RWX 0x40300 SharedOwned)) (2 ∷ []) in
    (need 2 block (put 0x40300 1 (leaf RWX 0x40300 SharedOwned)) ≡ 1)
    × (split.map 0x40301 ≡ leaf RWX 0x40301 Owned)
    × (split.table (1, 0x201) ≡ Some 2)
    × (need 2 split (put 0x40300 1 (leaf RWX 0x40300 Owned)) ≡ 0)

-- in trees of one level less: if the last mapped page of a block is unmapped, the block's table
-- goes, and the root stays
abbrev pub RemovalRow : Type 0
RemovalRow =
    let root = root_tree 1 0 in
    let page = edited 1 root (put 0x300 1 (leaf RWX 0x300 Owned)) (1 ∷ []) in
    let gone = edited 1 page (put 0x300 1 Unmapped) [] in
    (page.table (1, 1) ≡ Some 1)
    × (returned 1 page (put 0x300 1 Unmapped) ≡ 1 ∷ [])
    × (gone.table (1, 1) ≡ None)
    × (gone.table (2, 0) ≡ Some 0)

-- there too: a page of a mapped block is shared, which splits the block, and the share ends: the
-- block is one word again, and its table goes; if the page has another state at the end, the table
-- stays
abbrev pub FoldRow : Type 0
FoldRow =
    let block = edited 1 (root_tree 1 0) (put 0x200 512 (leaf RWX 0x200 Owned)) [] in
    let split = edited 1 block (put 0x300 1 (leaf RWX 0x300 SharedOwned)) (1 ∷ []) in
    let folded = edited 1 split (put 0x300 1 (leaf RWX 0x300 Owned)) [] in
    (block.table (1, 1) ≡ None)
    × (split.table (1, 1) ≡ Some 1)
    × (returned 1 split (put 0x300 1 (leaf RWX 0x300 Owned)) ≡ 1 ∷ [])
    × (folded.table (1, 1) ≡ None)
    × (folded.map 0x300 ≡ leaf RWX 0x300 Owned)
    × (returned 1 split (put 0x301 1 (leaf RWX 0x301 SharedOwned)) ≡ [])

-- pages whose frames advance are one word only if the first frame is aligned
abbrev pub UnalignedRow : Type 0
UnalignedRow =
    let pages = edited 1 (root_tree 1 0) (put 0x200 511 (leaf RWX 0x201 Owned)) (1 ∷ []) in
    (returned 1 pages (put 0x3ff 1 (leaf RWX 0x400 Owned)) ≡ [])

-- the layout of these rows can boot, so the laws of runs speak of it, and one whose carve-out lacks
-- a frame can't
abbrev pub CanBootRow : Type 0
CanBootRow = CanBoot (layout 64 64) × ¬ CanBoot (layout 5 64)

-- a boot with 64 frames: three tables for each tree
abbrev pub BootRow : Type 0
BootRow = free_count (boot (layout 64 64)) ≡ 58

-- a boot with 512 frames, whose carve-out is one word at level 2: two tables for each tree
abbrev pub WideBootRow : Type 0
WideBootRow = free_count (boot (layout 512 64)) ≡ 508

-- a share marks both pages, and takes a table for each tree
abbrev pub ShareRow : Type 0
ShareRow = let r = first_share (layout 64 64) 0x40100 in
    (r.0 ≡ ok)
    × (r.1.contents.shared.host.map 0x40100 ≡ leaf RWX 0x40100 SharedOwned)
    × (r.1.contents.shared.hyp.map 0x4040100 ≡ leaf RW 0x40100 SharedBorrowed)
    × (free_count r.1 ≡ 56)

-- and leaves the pages next to it
abbrev pub BesideRow : Type 0
BesideRow = let r = first_share (layout 64 64) 0x40100 in
    (r.1.contents.shared.host.map 0x40101 ≡ Unmapped)
    × (r.1.contents.shared.host.map 0x40600 ≡ annotation 1)
    × (r.1.contents.shared.hyp.map 0x4040600 ≡ leaf RW 0x40600 Owned)

-- a share whose tables exist takes no frame
abbrev pub NearRow : Type 0
NearRow = let r = first_share (layout 64 64) 0x40700 in (r.0 ≡ ok) × (free_count r.1 ≡ 58)

-- a shared page isn't shared again
abbrev pub AgainRow : Type 0
AgainRow = let r = share (layout 64 64) (first_share (layout 64 64) 0x40100).1 1 0x40100 in
    (r.0 ≡ Refused Perm) × (free_count r.1 ≡ 56)

-- nor a page of the carve-out
abbrev pub CarveRow : Type 0
CarveRow = (first_share (layout 64 64) 0x40600).0 ≡ Refused Perm

-- a device page is no memory frame
abbrev pub DeviceRow : Type 0
DeviceRow = (first_share (layout 64 64) 0x9000).0 ≡ Refused Invalid

-- nor is a page past memory
abbrev pub PastRow : Type 0
PastRow = (first_share (layout 64 64) 0x40800).0 ≡ Refused Invalid

-- a share needs two tables, and without a free frame it is refused
abbrev pub NoFrameRow : Type 0
NoFrameRow = let r = first_share (layout 6 64) 0x40100 in
    (r.0 ≡ Refused NoPool)
    × (r.1.contents.shared.host.map 0x40100 ≡ Unmapped)
    × (free_count r.1 ≡ 0)

-- with one free frame it is refused too, and the frame stays
abbrev pub OneFrameRow : Type 0
OneFrameRow = let r = first_share (layout 7 64) 0x40100 in
    (r.0 ≡ Refused NoPool) × (free_count r.1 ≡ 1)

-- if the CPU's log is full, the reply is that and nothing else
abbrev pub FullLogRow : Type 0
FullLogRow =
    (share (layout 64 1) (first_share (layout 64 1) 0x40100).1 0 0x9000).0 ≡ Refused LogFull

-- and if the Shared part's log is full, though another CPU's has room
abbrev pub FullSharedRow : Type 0
FullSharedRow =
    (share (layout 64 1) (first_share (layout 64 1) 0x9000).1 1 0x40100).0 ≡ Refused LogFull

-- a refused call is stored as well: each log has one call less to store
abbrev pub RoomRow : Type 0
RoomRow = let r = first_share (layout 64 64) 0x9000 in
    (r.1.rooms.shared ≡ 63) × (r.1.rooms.cpu 0 ≡ 63) × (r.1.rooms.cpu 1 ≡ 64)

-- if the host borrows a frame at a page that isn't the frame's own, the guest that shares the frame
-- is still its owner
abbrev pub OwnerRow : Type 0
OwnerRow =
    let host = record no_tree { map = put_at empty_map 3 (leaf RWX 7 SharedBorrowed) } in
    let guest =
    record no_guest
    { tree = record no_tree { map = put_at empty_map 5 (leaf RW 7 SharedOwned) } } in
    let s =
    record blank
    { shared = record no_shared { host = host }; guest = put_at (λ v. no_guest) 2 guest } in
    row_of (record (layout 64 64) { depth = 0 }) s 7
    ≡ record { owner = record { 0 = 4 }; lent = Some (lent_at 0 3); usage = Plain }
