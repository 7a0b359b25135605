-- Worked rows of owner rows found from scratch, and of the rows that steps keep, in trees of one
-- level, with pages and frames below 512.
use Rattle.std.specs.Prelude.{◌≡◌, ℕ, [], ◌∷◌, Some}
use Rattle.descriptor.specs.declared.Prot.TheVariants.{RW, RWX}
use Rattle.descriptor.specs.declared.State.TheVariants.{Owned, SharedOwned, SharedBorrowed}
use Rattle.reference_model.specs.declared.changes.Stage.TheVariants.{Booked}
use Rattle.page_state.specs.declared.layout.RegionKind.TheVariants.{Memory as MemoryKind}
use Rattle.page_state.specs.declared.row.Row.{Row}
use Rattle.page_state.specs.declared.row.Usage.TheVariants.{Plain, SharedPool, VmPool, InHand}
use Rattle.call_table.specs.declared.step.Step.{Step}
use Rattle.call_table.specs.declared.step.Step.TheVariants.{DonateHyp, Fund, Unfund, ShareGuest, DonateGuest, GuestShareHost, GuestUnshareHost, Install, Topup, HostAbort}
use Rattle.call_table.specs.declared.step.VmKind.TheVariants.{Protected, Plain as PlainVm}
use Rattle.page_state.specs.EntryTests.{leaf, annotation}
use Rattle.page_state.specs.Layouts.{Layout}
use Rattle.reference_model.specs.model.Owner.{row_of}
use Rattle.page_state.specs.Map.{Map}
use Rattle.page_state.specs.Trees.{Tree}
use Rattle.reference_model.specs.model.State.{live, Guest, Cpu, Reference, plain_row, no_cpu, no_guest, no_vms, all_rooms}
use Rattle.reference_model.specs.model.Step.{predict_step}
use Rattle.reference_model.specs.rows.OwnerRows.{lent_row}
use Rattle.reference_model.specs.rows.Scene.{small, range, vm, listed, pages, tables, at, row, old_row}
use Rattle.reference_model.specs.rows.SceneState.{loading, ticketed}

-- 256 frames of memory from 0x100 on, in trees of one level
abbrev pub tiny : Layout
tiny =
    record (small 0) {
      memory = record {
        regions = record { kind = MemoryKind; pages = range 0x100 0x100 }
            ∷ [];
        carve = range 0x1e0 0x10;
      };
    }

-- a tree of one level
abbrev pub flat : ℕ → Map → Tree
flat root map = record { map = map; table = tables (((1, 0), root) ∷ []) }

-- the host's pages: a guest's, borrowed and shared ones, and the hypervisor's
abbrev pub flat_host : Map
flat_host = pages (
    (0x100, annotation 5) ∷ (0x101, leaf RWX 0x101 SharedBorrowed)
    ∷ (0x102, leaf RWX 0x102 SharedOwned) ∷ (0x103, leaf RWX 0x103 SharedOwned)
    ∷ (0x104, annotation 1) ∷ (0x105, annotation 1)
    ∷ (0x106, annotation 1) ∷ (0x107, annotation 1) ∷ (0x108, annotation 1) ∷ (0x109, annotation 1)
    ∷ (0x10a, annotation 1) ∷ (0x10b, annotation 1) ∷ (0x10d, leaf RWX 0x10d Owned)
    ∷ (0x120, leaf RWX 0x120 SharedOwned) ∷ (0x121, leaf RWX 0x121 SharedBorrowed)
    ∷ (0x122, leaf RWX 0x122 SharedBorrowed) ∷ (0x123, leaf RWX 0x123 SharedOwned) ∷ [])

-- guests of slots 3 and 4: one owns page 7 and shares others, the other borrows pages; a third one,
-- of slot 9, borrows page 2
abbrev pub flat_guests : ℕ → Guest
flat_guests = listed ((
  3,
  record {
    phase = live;
    generation = 5;
    kind = Protected;
    free = 0x107
        ∷ [];
    tree =
        flat 0x108
        (pages
        ((7, leaf RWX 0x100 Owned) ∷ (8, leaf RWX 0x101 SharedOwned)
        ∷ (40, leaf RWX 0x121 SharedOwned) ∷ (41, leaf RWX 0x122 SharedOwned)
        ∷ []));
  },
)
    ∷ (
      4,
      record {
        phase = live;
        generation = 2;
        kind = PlainVm;
        free = [];
        tree =
            flat 0x10c
            (pages
            ((16, leaf RW 0x102 SharedBorrowed) ∷ (18, leaf RW 0x102 SharedBorrowed)
            ∷ (20, leaf RW 0x120 SharedBorrowed)
            ∷ (21, leaf RW 0x121 SharedBorrowed)
            ∷ (22, leaf RWX 0x122 SharedOwned)
            ∷ (30, leaf RW 0x123 SharedBorrowed) ∷ []));
      },
    )
    ∷ (
      9,
      record {
        phase = live;
        generation = 1;
        kind = PlainVm;
        free = [];
        tree = flat 0x10c (pages ((2, leaf RW 0x123 SharedBorrowed) ∷ []));
      },
    )
    ∷ []) no_guest

-- CPU 0 has a vCPU of the one loaded and CPU 1 of the other; CPU 3 has a hand, and CPU 4 the same
-- with a ticket
abbrev pub flat_cpus : ℕ → Cpu
flat_cpus =
    listed
    ((0, loading 3 5 0) ∷ (1, loading 4 2 0)
    ∷ (3, record no_cpu { hand = Some (range 0x109 2) })
    ∷ (4, record (ticketed 6 9 Booked) { hand = Some (range 0x109 2) }) ∷ []) no_cpu

-- all of it; the hypervisor's borrowed pages are at 0x50 and 0x60, and each frame has an old row
abbrev pub flat_scene : Reference
flat_scene = record {
  contents = record {
    vms = no_vms;
    guest = flat_guests;
    cpu = flat_cpus;
    shared =
        record {
          host = flat 0x105 flat_host;
          hyp =
              flat 0x106
              (pages
              ((0x50, leaf RW 0x103 SharedBorrowed)
              ∷ (0x60, leaf RW 0x120 SharedBorrowed) ∷ []));
          free = 0x104
              ∷ [];
          row = λ f. old_row;
        };
  };
  rooms = all_rooms 64;
}

-- the row of a frame, found from scratch
abbrev pub found : ℕ → Row
found f = row_of tiny flat_scene.contents f

-- the row of a frame that a step keeps
abbrev pub kept : ℕ → Step → ℕ → Row
kept cpu step f = (predict_step tiny flat_scene cpu step).1.contents.shared.row f

-- a guest's own frame, one that it lends to the host, and two that the host lends: to a guest's
-- first page of it, and to the hypervisor
abbrev pub OwnersFound : Type 0
OwnersFound =
    at found (0x100 ∷ 0x101 ∷ 0x102 ∷ 0x103 ∷ 0x10d ∷ 0x10e ∷ [])
    ≡ row 5 Plain ∷ lent_row 5 0 0x101 ∷ lent_row 0 6 16 ∷ lent_row 0 1 0x50 ∷ plain_row
    ∷ plain_row ∷ []

-- if several borrow a frame, it is lent to the first: the hypervisor before a guest, the host
-- before both, and of guests the first by slot; if several guests share a frame that the host
-- borrows, the first owns it
abbrev pub FirstFound : Type 0
FirstFound =
    at found (0x120 ∷ 0x121 ∷ 0x122 ∷ 0x123 ∷ [])
    ≡ lent_row 0 1 0x60 ∷ lent_row 5 0 0x121 ∷ lent_row 5 0 0x122 ∷ lent_row 0 6 30 ∷ []

-- a free frame, both roots, a guest's free frame and root, a hand's first and last frame, and one
-- that the hypervisor has for itself
abbrev pub UsesFound : Type 0
UsesFound =
    at found (0x104 ∷ 0x105 ∷ 0x106 ∷ 0x107 ∷ 0x108 ∷ 0x109 ∷ 0x10a ∷ 0x10b ∷ [])
    ≡ row 1 SharedPool ∷ row 1 SharedPool ∷ row 1 SharedPool ∷ row 1 (VmPool 3)
    ∷ row 1 (VmPool 3) ∷ row 1 (InHand 3) ∷ row 1 (InHand 3) ∷ row 1 Plain ∷ []

-- the rows that steps on guests' pages keep, and the row of a page next to them
abbrev pub GuestKept : Type 0
GuestKept =
    (kept 0 (DonateGuest 0x10d 9 1) 0x10d ≡ row 5 Plain)
    × (kept 0 (GuestShareHost 7) 0x100 ≡ lent_row 5 0 0x100)
    × (kept 0 (GuestUnshareHost 8) 0x101 ≡ row 5 Plain)
    × (kept 1 (ShareGuest 0x10d 17 RW 1) 0x10d ≡ lent_row 0 6 17)
    × (kept 1 (ShareGuest 0x10d 17 RW 1) 0x10e ≡ old_row)
    × (kept 2 (HostAbort 0x10c) 0x10c ≡ plain_row) × (kept 2 (HostAbort 0x10d) 0x10d ≡ old_row)

-- the rows that steps on the hypervisor's frames keep
abbrev pub HypKept : Type 0
HypKept =
    (at (kept 2 (DonateHyp 0x10d 2)) (0x10d ∷ 0x10e ∷ 0x10f ∷ [])
    ≡ row 1 Plain ∷ row 1 Plain ∷ old_row ∷ [])
    × (at (kept 2 (Fund 0x10d 2)) (0x10d ∷ 0x10e ∷ 0x10f ∷ [])
    ≡ row 1 (InHand 2) ∷ row 1 (InHand 2) ∷ old_row ∷ [])
    × (at (kept 3 Unfund) (0x109 ∷ 0x10a ∷ 0x10b ∷ []) ≡ plain_row ∷ plain_row ∷ old_row ∷ [])
    × (at (kept 4 Install) (0x109 ∷ 0x10a ∷ 0x10b ∷ [])
    ≡ row 1 (VmPool 6) ∷ row 1 (VmPool 6) ∷ old_row ∷ [])
    × (at (kept 3 (Topup (vm 3 5))) (0x109 ∷ 0x10a ∷ 0x10b ∷ [])
    ≡ row 1 (VmPool 3) ∷ row 1 (VmPool 3) ∷ old_row ∷ [])
