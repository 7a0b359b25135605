-- What the members of plain lists say.
use Rattle.std.specs.Prelude.{ℕ, Bool, ◌==◌, ◌&&◌, List, Option, Some, None, option_map, unwrap_or, filter_map, find, if◌then◌else◌}
use Rattle.page_state.specs.declared.entry.PageRange.{PageRange}
use Rattle.page_state.specs.declared.entry.Run.{Run}
use Rattle.page_state.specs.declared.row.Row.{Row}
use Rattle.run_list.specs.declared.run.Run.{Run as RowRun}
use Rattle.call_table.specs.declared.step.VmKind.{VmKind}
use Rattle.call_table.specs.declared.step.VmKind.TheVariants.{Plain, Protected}
use Rattle.reference_model.specs.model.State.{Cpu, Slot, Stand, vacant, reserved, opened, closing, Phase, empty, live, dying}
use Rattle.reference_model.specs.declared.changes.Loaded.{Loaded}
use Rattle.reference_model.specs.declared.changes.Ticket.{Ticket}
use Rattle.reference_model.specs.declared.changes.Stage.{Stage}
use Rattle.reference_model.specs.declared.changes.Stage.TheVariants.{Booked, Installed, Closing, Dying, Finished}
use Rattle.ghost_trees.specs.declared.tree.Table.{Table}
use Rattle.c_words.specs.Said.{target_from_c, row_from_c as owner_said}
use Rattle.c_states.specs.declared.members.PlainRun.{PlainRun}
use Rattle.c_states.specs.declared.members.PlainTable.{PlainTable}
use Rattle.c_states.specs.declared.members.PlainFrame.{PlainFrame}
use Rattle.c_states.specs.declared.members.PlainSlot.{PlainSlot}
use Rattle.c_states.specs.declared.members.PlainLoad.{PlainLoad}
use Rattle.c_states.specs.declared.members.PlainGuest.{PlainGuest}
use Rattle.c_states.specs.declared.members.PlainCpu.{PlainCpu}
use Rattle.c_states.specs.declared.members.PlainRow.{PlainRow}

-- the member of a number if one is listed, and else `none`
abbrev pub listed : {X : Type 0} → (X → ℕ) → X → List X → ℕ → X
listed number none xs n = unwrap_or (find (λ x. number x == n) xs) none

-- slots, guests and CPUs that aren't listed: a slot as at boot, an empty guest, and a CPU with
-- nothing
abbrev pub no_plain_slot : PlainSlot
no_plain_slot = record { slot = 0; stand = 0; generation = 1; kind = 0; vcpus = 0 }

abbrev pub no_plain_guest : PlainGuest
no_plain_guest = record { slot = 0; phase = 0; generation = 0; kind = 0 }

abbrev pub no_plain_cpu : PlainCpu
no_plain_cpu =
    record {
      cpu = 0;
      has_vcpu = 0;
      vcpu_slot = 0;
      vcpu_generation = 0;
      vcpu = 0;
      has_hand = 0;
      hand_first =
          0;
      hand_count =
          0;
      has_ticket =
          0;
      ticket_slot = 0;
      ticket_generation = 0;
      ticket_kind = 0;
      ticket_stage = 0;
    }

-- and those of a number
abbrev pub slot_listed : List PlainSlot → ℕ → PlainSlot
slot_listed = listed (λ s. s.slot) no_plain_slot

abbrev pub guest_listed : List PlainGuest → ℕ → PlainGuest
guest_listed = listed (λ g. g.slot) no_plain_guest

abbrev pub cpu_listed : List PlainCpu → ℕ → PlainCpu
cpu_listed = listed (λ k. k.cpu) no_plain_cpu

-- a range of pages or of frames
abbrev pub range_from_c : ℕ → ℕ → PageRange
range_from_c first count = record { first = record { 0 = first }; count = count }

-- the run that a plain run says of a tree, and those of a list
abbrev pub run_from_c : ℕ → PlainRun → Option Run
run_from_c tree r =
    if r.tree == tree
    then option_map (λ target. record { pages = range_from_c r.page r.count; target = target })
    (target_from_c r.word)
    else None

abbrev pub runs_from_c : List PlainRun → ℕ → List Run
runs_from_c runs tree = filter_map (run_from_c tree) runs

-- the table of a tree: its block is the one of 512 ^ height pages at the index
abbrev pub table_from_c : ℕ → PlainTable → Option Table
table_from_c tree t =
    if t.tree == tree then Some (record { block = (t.height, t.index); frame = t.frame }) else None

abbrev pub tables_from_c : List PlainTable → ℕ → List Table
tables_from_c tables tree = filter_map (table_from_c tree) tables

-- the free frame of a pool
abbrev pub frame_from_c : ℕ → PlainFrame → Option ℕ
frame_from_c pool f = if f.pool == pool then Some f.frame else None

abbrev pub frames_from_c : List PlainFrame → ℕ → List ℕ
frames_from_c frames pool = filter_map (frame_from_c pool) frames

-- the run of owner rows
abbrev pub row_from_c : PlainRow → Option (RowRun Row)
row_from_c r =
    option_map (λ row. record { pages = range_from_c r.frame r.count; value = row })
    (owner_said r.owner)

abbrev pub rows_from_c : List PlainRow → List (RowRun Row)
rows_from_c rows = filter_map row_from_c rows

-- whether a load is that of a vCPU of a slot
abbrev pub is_load : ℕ → ℕ → PlainLoad → Bool
is_load slot vcpu l = l.slot == slot && l.vcpu == vcpu

-- the CPU that has the vCPU of a slot loaded: the first that the list names
abbrev pub loader_from_c : List PlainLoad → ℕ → ℕ → Option ℕ
loader_from_c loads slot vcpu = option_map (λ l. l.cpu) (find (is_load slot vcpu) loads)

-- the stage of a slot, the phase of a guest, the kind of a VM, and the stage of a ticket: the last
-- for each number that isn't known
abbrev pub stand_from_c : ℕ → Stand
stand_from_c n =
    if n == 1 then reserved else if n == 2 then opened else if n == 3 then closing else vacant

abbrev pub phase_from_c : ℕ → Phase
phase_from_c n = if n == 1 then live else if n == 2 then dying else empty

abbrev pub kind_from_c : ℕ → VmKind
kind_from_c n = if n == 1 then Protected else Plain

abbrev pub stage_from_c : ℕ → Stage
stage_from_c n =
    if n == 0 then Booked
    else if n == 1 then Installed
    else if n == 2 then Closing
    else if n == 3 then Dying
    else Finished

-- a slot, by its number
abbrev pub slot_from_c : List PlainLoad → ℕ → PlainSlot → Slot
slot_from_c loads slot s = record {
  stand = stand_from_c s.stand;
  generation = s.generation;
  kind = kind_from_c s.kind;
  vcpus = s.vcpus;
  loaded = loader_from_c loads slot;
}

-- what a CPU has loaded, its hand and its ticket
abbrev pub loaded_from_c : PlainCpu → Option Loaded
loaded_from_c k =
    if k.has_vcpu == 0 then None
    else Some
    (record {
      vm = record { slot = k.vcpu_slot; generation = k.vcpu_generation };
      vcpu = k.vcpu;
    })

abbrev pub hand_from_c : PlainCpu → Option PageRange
hand_from_c k = if k.has_hand == 0 then None else Some (range_from_c k.hand_first k.hand_count)

abbrev pub ticket_from_c : PlainCpu → Option Ticket
ticket_from_c k =
    if k.has_ticket == 0 then None
    else Some
    (record {
      vm = record { slot = k.ticket_slot; generation = k.ticket_generation };
      kind = kind_from_c k.ticket_kind;
      stage = stage_from_c k.ticket_stage;
    })

abbrev pub cpu_from_c : PlainCpu → Cpu
cpu_from_c k = record { loaded = loaded_from_c k; hand = hand_from_c k; ticket = ticket_from_c k }
