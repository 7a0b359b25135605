-- The parts that are lent to a step, and a CPU's own state.
use Rattle.std.specs.Prelude.{◌≡◌, ℕ, ◌+◌, ◌-◌, ◌++◌, length, option_map, unwrap_or, IfSome, [], ◌∷◌, Option, Some, None}
use Rattle.call_table.specs.declared.reply.Call.{Call}
use Rattle.call_table.specs.declared.reply.Reply.{Reply}
use Rattle.call_table.specs.declared.step.Step.{Step}
use Rattle.page_state.specs.Layouts.{Layout}
use Rattle.reference_model.specs.model.Rules.{guest_slot}
use Rattle.reference_model.specs.model.State.{no_vms, no_shared, no_guest}
use Rattle.reference_model.specs.model.Used.{Used, UsedRooms}
use Rattle.guest_component.specs.View.{guest_depth}
use Rattle.part_types.specs.declared.parts.VmPart.{VmPart}
use Rattle.part_types.specs.declared.parts.SharedPart.{SharedPart}
use Rattle.part_types.specs.declared.parts.GuestPart.{GuestPart}
use Rattle.part_types.specs.declared.parts.CpuState.{CpuState}
use Rattle.part_types.specs.Logs.{StoredCalls, IsOfSize}
use Rattle.part_types.specs.MemoryRows.{HasMemoryRows}
use Rattle.part_types.specs.View.{vm_slots, shared_of, guest_held, cpu_of, depth_of}

-- the parts that a step uses, and the CPU's own state
pub record Lent (A : Type 0) : Type 0 where
  pub vms : Option VmPart
  pub shared : Option (SharedPart A)
  pub guest : Option (GuestPart A)
  pub cpu : CpuState

-- the lent part by the kind of use
module _ {A : Type 0} where
  abbrev pub lent_alone : CpuState → Lent A
  lent_alone k = record { vms = None; shared = None; guest = None; cpu = k }

  abbrev pub lent_vms : VmPart → CpuState → Lent A
  lent_vms v k = record { vms = Some v; shared = None; guest = None; cpu = k }

  abbrev pub lent_shared : SharedPart A → CpuState → Lent A
  lent_shared s k = record { vms = None; shared = Some s; guest = None; cpu = k }

  abbrev pub lent_guest : GuestPart A → CpuState → Lent A
  lent_guest g k = record { vms = None; shared = None; guest = Some g; cpu = k }

  abbrev pub lent_both : SharedPart A → GuestPart A → CpuState → Lent A
  lent_both s g k = record { vms = None; shared = Some s; guest = Some g; cpu = k }

-- the lent parts, as those that a call uses
abbrev pub used_in : {A : Type 0} → Lent A → Used
used_in x =
    record {
      vms = unwrap_or (option_map vm_slots x.vms) no_vms;
      shared =
          unwrap_or (option_map shared_of x.shared) no_shared;
      guest =
          unwrap_or (option_map guest_held x.guest) no_guest;
      cpu = cpu_of x.cpu;
    }

-- the slot of the Guest part that a step of the CPU uses
abbrev pub slot_in : {A : Type 0} → Lent A → Step → Option ℕ
slot_in x step = guest_slot (cpu_of x.cpu) step

-- a Shared part of the layout: trees of its depth, a row for each memory frame and for no other,
-- and a log of its size
pub record SharedSuits {A : Type 0} (l : Layout) (s : SharedPart A) : Type 0 where
  pub depth : depth_of s ≡ l.depth
  pub rows : HasMemoryRows l.memory s.owners
  pub log : IsOfSize l.config.log s.log

-- a Guest part of the layout: a tree of its depth, if there is one, and a log of its size
pub record GuestSuits {A : Type 0} (l : Layout) (g : GuestPart A) : Type 0 where
  pub depth : guest_depth g.guest ≡ l.depth
  pub log : IsOfSize l.config.log g.log

-- the lent parts are of the layout
pub record Suits {A : Type 0} (l : Layout) (x : Lent A) : Type 0 where
  pub vms : IfSome x.vms (λ v. IsOfSize l.config.log v.log)
  pub shared : IfSome x.shared (λ s. SharedSuits l s)
  pub guest : IfSome x.guest (λ g. GuestSuits l g)
  pub cpu : IsOfSize l.config.log x.cpu.log

-- the logs of the lent parts
pub record LentLogs : Type 0 where
  pub vms : Option StoredCalls
  pub shared : Option StoredCalls
  pub guest : Option StoredCalls
  pub cpu : StoredCalls

abbrev pub logs_in : {A : Type 0} → Lent A → LentLogs
logs_in x =
    record {
      vms = option_map (λ p. p.log) x.vms;
      shared = option_map (λ p. p.log) x.shared;
      guest = option_map (λ p. p.log) x.guest;
      cpu = x.cpu.log;
    }

-- their rooms
abbrev pub rooms_in : LentLogs → UsedRooms
rooms_in g =
    record {
      vms = unwrap_or (option_map (λ s. s.room) g.vms) 0;
      shared =
          unwrap_or (option_map (λ s. s.room) g.shared) 0;
      guest =
          unwrap_or (option_map (λ s. s.room) g.guest) 0;
      cpu = g.cpu.room;
    }

-- a log with a call at its end
abbrev pub with_call : Call → StoredCalls → StoredCalls
with_call c g = record { calls = g.calls ++ c ∷ []; room = g.room - 1 }

-- each log with a call at its end
abbrev pub all_with : Call → LentLogs → LentLogs
all_with c g =
    record {
      vms = option_map (with_call c) g.vms;
      shared = option_map (with_call c) g.shared;
      guest = option_map (with_call c) g.guest;
      cpu = with_call c g.cpu;
    }

-- the call of a step that a CPU makes: its number is one more than its log holds
abbrev pub call_in : {A : Type 0} → Lent A → Step → Reply → Call
call_in x step reply =
    record {
      cpu = x.cpu.id;
      number = length x.cpu.log.calls + 1;
      step = step;
      reply = reply;
      slot = slot_in x step;
    }
