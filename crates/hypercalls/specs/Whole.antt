-- The effect of a step of a CPU on all parts, as the reference step.
use Rattle.std.specs.Prelude.{◌≡◌, ℕ, ◌+◌, Bool, true, false, length, slice_get, Option, Some, Ok}
use Rattle.call_table.specs.declared.reply.Call.{Call}
use Rattle.call_table.specs.declared.reply.Refusal.TheVariants.{NoMemory}
use Rattle.call_table.specs.declared.reply.Reply.{Reply}
use Rattle.call_table.specs.declared.reply.Reply.TheVariants.{Refused}
use Rattle.call_table.specs.declared.step.Step.{Step}
use Rattle.reference_model.specs.declared.changes.Changes.{Changes}
use Rattle.reference_model.specs.model.Decides.{decides}
use Rattle.reference_model.specs.model.History.{IsStored}
use Rattle.reference_model.specs.model.Stored.{StoresCall}
use Rattle.reference_model.specs.model.Rules.{names, guest_slot}
use Rattle.reference_model.specs.model.Step.{Steps, is_full as has_full_log}
use Rattle.reference_model.specs.model.Used.{used_of, rooms_of}
use Rattle.guest_component.specs.Wants.{WantsNoMemory}
use Rattle.part_types.specs.declared.parts.GuestPart.{GuestPart}
use Rattle.part_types.specs.Roomy.{IsRoomy}
use Rattle.hypercalls.specs.declared.parts.Parts.{Parts}
use Rattle.hypercalls.specs.Stands.{parts_layout, kept_of, state_of}

module _ {A : Type 0} (p : Parts A) (cpu : ℕ) (step : Step) where
  -- the slot of the Guest part that a step of a CPU uses
  abbrev pub slot_here : Option ℕ
  slot_here = guest_slot ((kept_of p).cpu cpu).0 step

  -- the call of a step: its number is one more than its CPU's log holds
  abbrev pub call_of : Reply → Call
  call_of reply =
      record {
        cpu = cpu;
        number = length ((kept_of p).cpu cpu).1 + 1;
        step = step;
        reply = reply;
        slot = slot_here;
      }

  -- a log that would store the call of a step is full
  abbrev pub is_log_full : Bool
  is_log_full =
      has_full_log (names step) slot_here (rooms_of (names step) slot_here cpu (state_of p).rooms)

  -- memory for the changes of the guest that the step uses, if any, is there already
  abbrev pub HasRoomyGuest : Changes → Type 0
  HasRoomyGuest h =
      (v : ℕ) (g : GuestPart A)
      → slot_here ≡ Some v
      → slice_get p.guests.items v ≡ Some g
      → WantsNoMemory h g.guest

  -- memory may run out: the decided changes may need a growth
  abbrev pub CanWant : Type 0
  CanWant =
      (h : Changes)
      → decides (parts_layout p) cpu slot_here step
      (used_of (names step) slot_here cpu (state_of p).contents)
      ≡ Ok h
      → IsRoomy h p.shared
      → HasRoomyGuest h
      → ⊥

  -- the parts after a step, and its reply: those after the reference step. If a log is full nothing
  -- changes; else the call is stored in the logs of the parts that it uses and of its CPU. Memory
  -- runs out only for a step that may allocate
  pub record IsStep (reply : Reply) (q : Parts A) : Type 0 where
    pub layout : parts_layout q ≡ parts_layout p
    pub steps : Steps (parts_layout p) (state_of p) (call_of reply) (state_of q)
    pub full : is_log_full ≡ true → kept_of q ≡ kept_of p
    pub stored : is_log_full ≡ false → IsStored reply
    pub stores : is_log_full ≡ false
        → StoresCall (call_of reply) (state_of q).contents (kept_of p) (kept_of q)
    pub wants : reply ≡ Refused NoMemory → CanWant
