-- Laws of the rooms of logs.
use Rattle.std.specs.Prelude.{◌≡◌, ◌≢◌, ℕ, ◌+◌, ◌==◌, List, length, All}
use Rattle.call_table.specs.declared.reply.Call.{Call}
use Rattle.call_table.specs.declared.reply.Refusal.TheVariants.{LogFull}
use Rattle.call_table.specs.declared.reply.Reply.TheVariants.{Refused}
use Rattle.reference_model.specs.help.Conditions.{one}
use Rattle.reference_model.specs.model.History.{calls_on, calls_by, IsStored}
use Rattle.page_state.specs.Layouts.{Layout}
use Rattle.reference_model.specs.model.Parts.{vm_part, shared_part, guest_part}
use Rattle.reference_model.specs.model.Rules.{call_uses}
use Rattle.reference_model.specs.model.Run.{IsRun}
use Rattle.reference_model.specs.model.State.{Reference, Rooms}
use Rattle.reference_model.specs.model.Step.{Steps}

-- the rooms of the logs that store a call are one more before it than after, and the others stay
pub record RoomsFall (c : Call) (before after : Rooms) : Type 0 where
  pub vms : after.vms + one (call_uses vm_part c) ≡ before.vms
  pub shared : after.shared + one (call_uses shared_part c) ≡ before.shared
  pub guest : (v : ℕ) → after.guest v + one (call_uses (guest_part v) c) ≡ before.guest v
  pub cpu : (cpu : ℕ) → after.cpu cpu + one (c.cpu == cpu) ≡ before.cpu cpu

-- each stored call takes one from the room of each log that it uses, and from no other
abbrev pub StoredFalls : Type 0
StoredFalls =
    (l : Layout) (s t : Reference) (c : Call)
    → Steps l s c t
    → c.reply ≢ Refused LogFull
    → RoomsFall c s.rooms t.rooms

-- a log's room and its calls make up the log's size
pub record RoomsLeft (l : Layout) (cs : List Call) (r : Rooms) : Type 0 where
  pub vms : r.vms + length (calls_on vm_part cs) ≡ l.config.log
  pub shared : r.shared + length (calls_on shared_part cs) ≡ l.config.log
  pub guest : (v : ℕ) → r.guest v + length (calls_on (guest_part v) cs) ≡ l.config.log
  pub cpu : (cpu : ℕ) → r.cpu cpu + length (calls_by cpu cs) ≡ l.config.log

-- after a run of stored calls
abbrev pub RunRooms : Type 0
RunRooms =
    (l : Layout) (cs : List Call) (t : Reference)
    → IsRun l cs t
    → All (λ c. IsStored c.reply) cs
    → RoomsLeft l cs t.rooms
