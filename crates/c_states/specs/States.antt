-- The reference state that plain lists say.
use Rattle.std.specs.Prelude.{ℕ, ◌+◌, List, nat_lt, if◌then◌else◌}
use Rattle.page_state.specs.Runs.{map_of}
use Rattle.page_state.specs.Trees.{Tree}
use Rattle.reference_model.specs.model.State.{Contents, Guest, Reference, Rooms, no_guest, no_slot}
use Rattle.ghost_spec.specs.Views.{row_in}
use Rattle.ghost_trees.specs.Pools.{in_order}
use Rattle.ghost_trees.specs.Trees.{table_of}
use Rattle.c_states.specs.declared.members.PlainRun.{PlainRun}
use Rattle.c_states.specs.declared.members.PlainTable.{PlainTable}
use Rattle.c_states.specs.declared.members.PlainFrame.{PlainFrame}
use Rattle.c_states.specs.declared.members.PlainSlot.{PlainSlot}
use Rattle.c_states.specs.declared.members.PlainLoad.{PlainLoad}
use Rattle.c_states.specs.declared.members.PlainGuest.{PlainGuest}
use Rattle.c_states.specs.declared.members.PlainCpu.{PlainCpu}
use Rattle.c_states.specs.declared.members.PlainRow.{PlainRow}
use Rattle.c_states.specs.Lists.{runs_from_c, tables_from_c, frames_from_c, rows_from_c, slot_listed, slot_from_c, guest_listed, phase_from_c, kind_from_c, cpu_listed, cpu_from_c}

-- the lists of a state
pub record Lists : Type 0 where
  pub runs : List PlainRun
  pub tables : List PlainTable
  pub frames : List PlainFrame
  pub slots : List PlainSlot
  pub loads : List PlainLoad
  pub guests : List PlainGuest
  pub cpus : List PlainCpu
  pub rows : List PlainRow

-- the tree of a number: 0 the host's, 1 the hypervisor's, 2 + v the guest's in slot v
abbrev pub tree_from_c : Lists → ℕ → Tree
tree_from_c p tree =
    record {
      map = map_of (runs_from_c p.runs tree);
      table = table_of (tables_from_c p.tables tree);
    }

-- a guest, by its slot
abbrev pub guest_from_c : Lists → ℕ → PlainGuest → Guest
guest_from_c p slot g = record {
  phase = phase_from_c g.phase;
  generation = g.generation;
  kind = kind_from_c g.kind;
  tree = tree_from_c p (2 + slot);
  free = in_order (frames_from_c p.frames (2 + slot));
}

-- all contents: 64 slots and guests, and pool 1, which is the shared one
abbrev pub contents_from_c : Lists → Contents
contents_from_c p = record {
  vms =
      record {
        slot = λ v. if nat_lt v 64 then slot_from_c p.loads v (slot_listed p.slots v)
            else no_slot 1;
      };
  shared =
      record {
        host = tree_from_c p 0;
        hyp = tree_from_c p 1;
        free = in_order (frames_from_c p.frames 1);
        row = row_in (rows_from_c p.rows);
      };
  guest = λ v. if nat_lt v 64 then guest_from_c p v (guest_listed p.guests v) else no_guest;
  cpu = λ c. cpu_from_c (cpu_listed p.cpus c);
}

-- each log has room for a call
abbrev pub rooms_from_c : Rooms
rooms_from_c = record { vms = 1; shared = 1; guest = λ v. 1; cpu = λ c. 1 }

-- the state
abbrev pub state_from_c : Lists → Reference
state_from_c p = record { contents = contents_from_c p; rooms = rooms_from_c }
