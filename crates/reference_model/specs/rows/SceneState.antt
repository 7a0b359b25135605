-- A state written out, in trees of two levels: pages in many states, three guests, slots in each
-- stage, and CPUs with hands and tickets. Rows look at the answer of their step; no run ends in
-- this state.
use Rattle.std.specs.Prelude.{ℕ, List, [], ◌∷◌, Option, Some, None}
use Rattle.descriptor.specs.declared.Prot.TheVariants.{RW, RX, RWX}
use Rattle.descriptor.specs.declared.State.TheVariants.{Owned, SharedOwned, SharedBorrowed}
use Rattle.reference_model.specs.declared.changes.Stage.{Stage}
use Rattle.reference_model.specs.declared.changes.Stage.TheVariants.{Booked, Installed, Closing, Dying, Finished}
use Rattle.page_state.specs.declared.row.Row.{Row}
use Rattle.page_state.specs.declared.row.Usage.TheVariants.{Plain, SharedPool, VmPool, InHand}
use Rattle.call_table.specs.declared.step.VmKind.{VmKind}
use Rattle.call_table.specs.declared.step.VmKind.TheVariants.{Protected, Plain as PlainVm}
use Rattle.page_state.specs.EntryTests.{leaf, annotation}
use Rattle.page_state.specs.Map.{Map, update}
use Rattle.reference_model.specs.rows.Scene.{range, vm, listed, pages, tables, row}
use Rattle.page_state.specs.Trees.{Tree, Pool}
use Rattle.reference_model.specs.model.State.{Shared, live, dying, Guest, Stand, reserved, opened, closing, Slot, Cpu, Reference, put_at, plain_row, no_guest, no_slot, no_cpu, all_rooms}

-- the host's pages: single ones in each state, a donated block, and the frames that guests hold
abbrev pub host_map : Map
host_map = update (update (pages (
    (0x1000, leaf RWX 0x1000 Owned) ∷ (0x1001, leaf RWX 0x1001 SharedOwned)
    ∷ (0x1002, annotation 1) ∷ (0x1003, annotation 1)
    ∷ (0x1004, annotation 1) ∷ (0x1005, annotation 1) ∷ (0x1006, leaf RWX 0x1006 SharedOwned)
    ∷ (0x1007, leaf RWX 0x1007 SharedBorrowed)
    ∷ (0x1009, annotation 5) ∷ (0x100a, annotation 7) ∷ (0x100b, leaf RWX 0x100b SharedBorrowed)
    ∷ (0x100c, leaf RWX 0x100c SharedOwned)
    ∷ (0x100d, annotation 5) ∷ (0x1010, leaf RWX 0x1010 Owned)
    ∷ (0x1011, leaf RWX 0x1011 SharedOwned)
    ∷ [])) 0x1200 512 (annotation 1)) 0x1600 512 (annotation 1)

-- the hypervisor's pages: one borrowed page, those of the host's donations, and three that disagree
-- with the host's pages
abbrev pub hyp_map : Map
hyp_map = update (update (pages (
    (0x4001001, leaf RW 0x1001 SharedBorrowed) ∷ (0x4001002, leaf RW 0x1002 Owned)
    ∷ (0x4001003, leaf RW 0x1003 Owned)
    ∷ (0x4001004, leaf RW 0x1004 Owned) ∷ (0x4001005, leaf RW 0x1005 Owned)
    ∷ (0x4001008, leaf RW 0x1008 Owned)
    ∷ (0x4001010, leaf RW 0x1010 SharedBorrowed) ∷ (0x4001011, leaf RW 0x1011 Owned)
    ∷ [])) 0x4001200 512 (leaf RW 0x1200 Owned)) 0x4001600 512 (leaf RW 0x1600 Owned)

-- the Shared part: tables for single mapped pages, none at the blocks, and three free frames
abbrev pub scene_shared : Shared
scene_shared = record {
  host = record { map = host_map; table = tables (((2, 0), 0x1600) ∷ ((1, 8), 0x1602) ∷ []) };
  hyp = record { map = hyp_map; table = tables (((2, 0), 0x1601) ∷ ((1, 0x20008), 0x1611) ∷ []) };
  free = 0x1610 ∷ 0x1612 ∷ 0x1620 ∷ [];
  row =
      listed
      ((0x1002, row 1 Plain) ∷ (0x1003, row 1 Plain) ∷ (0x1004, row 1 (InHand 3))
      ∷ (0x1005, row 1 (InHand 3)) ∷ (0x1008, row 1 Plain) ∷ (0x1012, row 1 Plain)
      ∷ (0x1200, row 1 Plain) ∷ (0x1405, row 1 Plain) ∷ (0x1610, row 1 SharedPool)
      ∷ (0x1702, row 1 (VmPool 3)) ∷ []) plain_row;
}

-- a tree of two levels: the root's frame, and the table of the first 512 pages
abbrev pub low_tree : ℕ → ℕ → Map → Tree
low_tree root leaves map =
    record { map = map; table = tables (((2, 0), root) ∷ ((1, 0), leaves) ∷ []) }

-- the protected guest of slot 3: it owns pages 7 and 12, shares page 8 with the host, and has two
-- free frames
abbrev pub protected_guest : Guest
protected_guest = record {
  phase = live;
  generation = 5;
  kind = Protected;
  free = 0x1702 ∷ 0x1705 ∷ [];
  tree =
      low_tree 0x1700 0x1701
      (pages
      ((7, leaf RWX 0x1009 Owned) ∷ (8, leaf RWX 0x1007 SharedOwned)
      ∷ (12, leaf RX 0x100d Owned) ∷ []));
}

-- the plain guest of slot 4: it borrows page 16 from the host, and has two free frames, on either
-- side of its second table's
abbrev pub plain_guest : Guest
plain_guest = record {
  phase = live;
  generation = 2;
  kind = PlainVm;
  free = 0x1710 ∷ 0x1714 ∷ [];
  tree = low_tree 0x1711 0x1712 (pages ((16, leaf RX 0x1006 SharedBorrowed) ∷ []));
}

-- the Dying guest of slot 5, with a page in each state, and two free frames
abbrev pub dying_guest : Guest
dying_guest = record {
  phase = dying;
  generation = 3;
  kind = Protected;
  free = 0x1722 ∷ 0x1724 ∷ [];
  tree =
      low_tree 0x1721 0x1723
      (pages
      ((1, leaf RWX 0x100a Owned) ∷ (2, leaf RWX 0x100b SharedOwned)
      ∷ (3, leaf RW 0x100c SharedBorrowed) ∷ []));
}

-- a guest of generation 1 that has only its root
abbrev pub bare_guest : ℕ → Guest
bare_guest root =
    record {
      phase = live;
      generation = 1;
      kind = Protected;
      free = [];
      tree = record { map = pages []; table = tables (((2, 0), root) ∷ []) };
    }

-- an Open slot of a VM with four vCPUs; CPUs have these vCPUs loaded
abbrev pub open_slot : ℕ → VmKind → List (ℕ × Option ℕ) → Slot
open_slot generation kind loads =
    record {
      stand = opened;
      generation = generation;
      kind = kind;
      vcpus = 4;
      loaded = listed loads None;
    }

-- a slot of a ticket, whose VM has no vCPU loaded
abbrev pub held_slot : Stand → ℕ → Slot
held_slot stand generation =
    record (no_slot generation) { stand = stand; kind = Protected; vcpus = 4 }

-- the slots: five Open ones, one of which has a vCPU past its number loaded; those of tickets; and
-- the first Empty one has number 12 and generation 6
abbrev pub slots : ℕ → Slot
slots = listed (
    (0, open_slot 1 Protected []) ∷ (1, open_slot 1 PlainVm ((7, Some 9) ∷ []))
    ∷ (2, open_slot 4 PlainVm []) ∷ (3, open_slot 5 Protected ((1, Some 0) ∷ []))
    ∷ (4, open_slot 2 PlainVm ((0, Some 1) ∷ (3, Some 9) ∷ []))
    ∷ (5, held_slot closing 3) ∷ (6, held_slot reserved 9) ∷ (7, held_slot closing 1)
    ∷ (8, held_slot closing 1) ∷ (9, held_slot reserved 1) ∷ (10, held_slot closing 1)
    ∷ (11, held_slot reserved 1)
    ∷ (12, no_slot 6) ∷ []) (no_slot 1)

-- a CPU with a vCPU loaded
abbrev pub loading : ℕ → ℕ → ℕ → Cpu
loading v generation i = record no_cpu { loaded = Some (record { vm = vm v generation; vcpu = i }) }

-- a CPU with a ticket of this stage
abbrev pub ticketed : ℕ → ℕ → Stage → Cpu
ticketed v generation stage =
    record no_cpu
    { ticket = Some (record { vm = vm v generation; kind = Protected; stage = stage }) }

-- the CPUs: 0, 1 and 9 have vCPUs loaded, 2 has nothing, 3 and 4 have hands, 4 to 8 have tickets
abbrev pub cpus : ℕ → Cpu
cpus = listed (
    (0, loading 3 5 1) ∷ (1, loading 4 2 0) ∷ (3, record no_cpu { hand = Some (range 0x1004 2) })
    ∷ (4, record (ticketed 6 9 Booked) { hand = Some (range 0x1730 3) })
    ∷ (5, ticketed 7 1 Closing) ∷ (6, ticketed 8 1 Dying) ∷ (7, ticketed 9 1 Installed)
    ∷ (8, ticketed 10 1 Finished) ∷ (9, loading 4 2 3) ∷ []) no_cpu

-- all of it, with logs that can still store 64 calls
abbrev pub scene : Reference
scene = record {
  contents = record {
    vms = record { slot = slots };
    shared = scene_shared;
    cpu = cpus;
    guest =
        listed
        ((3, protected_guest) ∷ (4, plain_guest) ∷ (5, dying_guest) ∷ (7, bare_guest 0x1740)
        ∷ (8, record (bare_guest 0x1741) { phase = dying }) ∷ (9, bare_guest 0x1742)
        ∷ []) no_guest;
  };
  rooms = all_rooms 64;
}

-- a state with these free frames in the shared pool
abbrev pub with_free : Pool → Reference → Reference
with_free free s =
    record s { contents = record s.contents { shared = record s.contents.shared { free = free } } }

-- a state in which the hypervisor's tables hold one page each: one borrowed, and one that it owns,
-- which is the only one of the host's table too
abbrev pub lonely : Reference
lonely = record scene {
  contents = record scene.contents {
    shared = record scene_shared {
      host =
          record {
            map = pages
                ((0x1001, leaf RWX 0x1001 SharedOwned) ∷ (0x1405, annotation 1) ∷ []);
            table = tables (((2, 0), 0x1600) ∷ ((1, 8), 0x1602) ∷ ((1, 10), 0x1618) ∷ []);
          };
      hyp =
          record {
            map = pages
                ((0x4001001, leaf RW 0x1001 SharedBorrowed) ∷ (0x4001405, leaf RW 0x1405 Owned)
                ∷ []);
            table =
                tables
                (((2, 0), 0x1601) ∷ ((1, 0x20008), 0x1611) ∷ ((1, 0x2000a), 0x1608) ∷ []);
          };
    };
  };
}

-- a state with this state of a CPU
abbrev pub with_cpu : ℕ → Cpu → Reference → Reference
with_cpu c k s = record s { contents = record s.contents { cpu = put_at s.contents.cpu c k } }

-- a state with this guest in a slot
abbrev pub with_guest_part : ℕ → Guest → Reference → Reference
with_guest_part v g s =
    record s { contents = record s.contents { guest = put_at s.contents.guest v g } }

-- a state with these slots
abbrev pub with_slots : (ℕ → Slot) → Reference → Reference
with_slots slots s = record s { contents = record s.contents { vms = record { slot = slots } } }

-- a state with these owner rows
abbrev pub with_kept_rows : (ℕ → Row) → Reference → Reference
with_kept_rows row s =
    record s { contents = record s.contents { shared = record s.contents.shared { row = row } } }
