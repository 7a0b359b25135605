-- The effect of a step on lent parts.
use Rattle.std.specs.Prelude.{◌≡◌, ℕ, Bool, true, false, ◌==◌, ◌||◌, option_map, unwrap_or, IfSome, Option, Some, None, Ok, if◌then◌else◌}
use Rattle.call_table.specs.declared.reply.Call.{Call}
use Rattle.call_table.specs.declared.reply.Refusal.TheVariants.{LogFull, NoMemory}
use Rattle.call_table.specs.declared.reply.Reply.{Reply}
use Rattle.call_table.specs.declared.reply.Reply.TheVariants.{Refused}
use Rattle.call_table.specs.declared.step.Step.{Step}
use Rattle.page_state.specs.Layouts.{Layout}
use Rattle.reference_model.specs.declared.changes.Changes.{Changes}
use Rattle.reference_model.specs.model.Decides.{decides}
use Rattle.reference_model.specs.model.History.{IsStored}
use Rattle.reference_model.specs.model.Step.{StepsOn}
use Rattle.guest_component.specs.Wants.{WantsNoMemory}
use Rattle.part_types.specs.Lent.{Lent, LentLogs, used_in, slot_in, logs_in, rooms_in, call_in, all_with}
use Rattle.part_types.specs.Logs.{StoredCalls}
use Rattle.part_types.specs.Roomy.{IsRoomy}

-- a log is lent, and full
abbrev pub is_full_in : Option StoredCalls → Bool
is_full_in log = unwrap_or (option_map (λ g. g.room == 0) log) false

-- a log that would store the call is full
abbrev pub any_full : LentLogs → Bool
any_full g = g.cpu.room == 0 || is_full_in g.vms || is_full_in g.shared || is_full_in g.guest

-- the reply of a step: that of the call that it stored, or that a log is full
abbrev pub reply_in : Option Call → Reply
reply_in None = Refused LogFull
reply_in (Some c) = c.reply

-- memory may run out: the decided changes may need a growth
abbrev pub CanWantOn : {A : Type 0} → Layout → ℕ → Option ℕ → Step → Lent A → Type 0
CanWantOn l id slot step x =
    (h : Changes)
    → decides l id slot step (used_in x) ≡ Ok h
    → IfSome x.shared (λ s. IsRoomy h s)
    → IfSome x.guest (λ g. WantsNoMemory h g.guest)
    → ⊥

-- the step of a CPU on the lent parts, by the call that it stored: it is the reference step there,
-- and the call is stored in each log if none is full; otherwise nothing changes. Memory runs out
-- only if it may. The CPU's number stays
pub record IsStepOn {A : Type 0} (l : Layout) (step : Step) (x : Lent A) (made : Option Call)
    (y : Lent A) : Type 0 where
  pub on : StepsOn l (call_in x step (reply_in made)) (used_in x) (rooms_in (logs_in x))
      (used_in y) (rooms_in (logs_in y))
  pub told : made ≡ (if any_full (logs_in x) then None else Some (call_in x step (reply_in made)))
  pub logs : logs_in y
      ≡ (if any_full (logs_in x) then logs_in x
      else all_with (call_in x step (reply_in made)) (logs_in x))
  pub full : any_full (logs_in x) ≡ true → y ≡ x
  pub stored : any_full (logs_in x) ≡ false → IsStored (reply_in made)
  pub wants : reply_in made ≡ Refused NoMemory → CanWantOn l x.cpu.id (slot_in x step) step x
  pub id : y.cpu.id ≡ x.cpu.id
