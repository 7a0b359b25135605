-- Lists of the reference state that are filled in as plain lists say, before any test of them.
use Rattle.std.specs.Prelude.{◌≡◌, ℕ, ◌+◌, List, None, All, map, nat_lt, if◌then◌else◌}
use Rattle.std.specs.List.{range_with_len}
use Rattle.page_state.specs.declared.entry.Run.{Run}
use Rattle.page_state.specs.Rows.{advance_row}
use Rattle.run_list.specs.Runs.{run_map}
use Rattle.call_table.specs.declared.step.VmKind.{VmKind}
use Rattle.reference_model.specs.model.State.{Phase, Slot}
use Rattle.ghost_trees.specs.declared.tree.Table.{Table}
use Rattle.ghost_trees.specs.declared.tree.Tree.{Tree}
use Rattle.ghost_spec.specs.declared.lists.GhostLists.{GhostLists}
use Rattle.ghost_spec.specs.declared.lists.GhostRooms.{GhostRooms}
use Rattle.ghost_spec.specs.declared.parts.GhostGuest.{GhostGuest}
use Rattle.ghost_spec.specs.declared.shared.Shared.{Shared}
use Rattle.ghost_spec.specs.States.{phase_in, slot_in}
use Rattle.ghost_spec.specs.Views.{cpu_in}
use Rattle.c_states.specs.declared.members.PlainGuest.{PlainGuest}
use Rattle.c_states.specs.declared.members.PlainLoad.{PlainLoad}
use Rattle.c_states.specs.declared.members.PlainSlot.{PlainSlot}
use Rattle.c_states.specs.Lists.{runs_from_c, tables_from_c, frames_from_c, rows_from_c, slot_listed, slot_from_c, guest_listed, phase_from_c, kind_from_c, cpu_listed, cpu_from_c}
use Rattle.c_states.specs.States.{Lists}

-- a tree has the runs and the tables of a number
pub record IsFilledTree (p : Lists) (tree : ℕ) (t : Tree) : Type 0 where
  pub runs : t.runs.items ≡ runs_from_c p.runs tree
  pub tables : t.tables.items ≡ tables_from_c p.tables tree

-- the Shared part: pool 1 is the shared one
pub record IsFilledShared (p : Lists) (s : Shared) : Type 0 where
  pub host : IsFilledTree p 0 s.host
  pub hyp : IsFilledTree p 1 s.hyp
  pub free : s.free.items ≡ frames_from_c p.frames 1
  pub rows : run_map advance_row s.rows.runs ≡ run_map advance_row (rows_from_c p.rows)

-- what a guest's lists hold
pub record GuestLists : Type 0 where
  pub phase : Phase
  pub generation : ℕ
  pub kind : VmKind
  pub runs : List Run
  pub tables : List Table
  pub free : List ℕ

abbrev pub lists_in : GhostGuest → GuestLists
lists_in g =
    record {
      phase = phase_in g.phase;
      generation = g.generation;
      kind = g.kind;
      runs = g.tree.runs.items;
      tables = g.tree.tables.items;
      free = g.free.items;
    }

-- and what those of a slot say
abbrev pub guest_lists_from_c : Lists → ℕ → PlainGuest → GuestLists
guest_lists_from_c p slot g = record {
  phase = phase_from_c g.phase;
  generation = g.generation;
  kind = kind_from_c g.kind;
  runs = runs_from_c p.runs (2 + slot);
  tables = tables_from_c p.tables (2 + slot);
  free = frames_from_c p.frames (2 + slot);
}

-- the guests, by slot
abbrev pub AreFilledGuests : Lists → List GhostGuest → Type 0
AreFilledGuests p guests =
    map lists_in guests
    ≡ map (λ v. guest_lists_from_c p v (guest_listed p.guests v)) (range_with_len 0 64)

-- each log has room for one call
pub record IsRoomy (r : GhostRooms) : Type 0 where
  pub vms : r.vms ≡ 1
  pub shared : r.shared ≡ 1
  pub guests : All (λ n. n ≡ 1) r.guests.items
  pub cpus : All (λ n. n ≡ 1) r.cpus.items

-- a slot of 8 vCPUs
abbrev pub slot_filled : List PlainLoad → ℕ → PlainSlot → Slot
slot_filled loads v s = let said = slot_from_c loads v s in
    record said { loaded = λ vcpu. if nat_lt vcpu 8 then said.loaded vcpu else None }

-- all lists, for `count` CPUs
pub record IsFilled (count : ℕ) (p : Lists) (l : GhostLists) : Type 0 where
  pub shared : IsFilledShared p l.shared
  pub slots : map slot_in l.vms.items
      ≡ map (λ v. slot_filled p.loads v (slot_listed p.slots v)) (range_with_len 0 64)
  pub guests : AreFilledGuests p l.guests.items
  pub cpus : map cpu_in l.cpus.items
      ≡ map (λ c. cpu_from_c (cpu_listed p.cpus c)) (range_with_len 0 count)
  pub rooms : IsRoomy l.rooms
  pub log : l.layout.config.log ≡ 1
