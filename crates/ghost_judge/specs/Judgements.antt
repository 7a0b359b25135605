-- When a reply and the state after a call are the model's, and the first difference if they aren't.
-- The order: the reply, the host's map, the hypervisor's, those of the guests by slot, the owner
-- rows, the shared pool and the tables of its trees, all of each guest but its map, the slots, and
-- the CPUs.
use Rattle.std.specs.Prelude.{◌≡◌, ◌⊎◌, ℕ, ◌<◌, Bool, true, false}
use Rattle.call_table.specs.declared.reply.Call.{Call}
use Rattle.call_table.specs.declared.reply.Refusal.TheVariants.{NoMemory}
use Rattle.call_table.specs.declared.reply.Reply.{Reply}
use Rattle.call_table.specs.declared.reply.Reply.TheVariants.{Done, Refused}
use Rattle.call_table.specs.declared.step.Step.{Step}
use Rattle.page_state.specs.Layouts.{Layout}
use Rattle.page_state.specs.LayoutView.{layout_of}
use Rattle.reference_model.specs.model.Rules.{may_grow}
use Rattle.reference_model.specs.model.State.{Contents, Reference}
use Rattle.reference_model.specs.model.Step.{predict_step, Steps}
use Rattle.ghost_spec.specs.declared.state.Ghost.{Ghost}
use Rattle.ghost_spec.specs.States.{ghost_state}
use Rattle.ghost_judge.specs.declared.disagreement.Disagreement.{Disagreement}
use Rattle.ghost_judge.specs.declared.disagreement.Disagreement.TheVariants.{Map as MapDiffers, Owner as OwnerDiffers, Reply as ReplyDiffers, SharedPart, GuestPart, Vm, Cpu}
use Rattle.ghost_judge.specs.Apart.{IsFirstApart}
use Rattle.ghost_judge.specs.Audits.{AuditAgrees, IsFirstDifference}
use Rattle.ghost_judge.specs.PartDifferences.{without_map, IsFirstOfGuest, IsFirstOfShared, IsSamePool}

-- all maps, all rows, the shared pool and the tables of its trees are equal
pub record PoolAgrees (post spec : Contents) : Type 0 where
  pub audit : AuditAgrees post spec
  pub pool : IsSamePool post.shared spec.shared

-- all that and all of each guest are equal
pub record GuestsAgree (post spec : Contents) : Type 0 where
  pub pool : PoolAgrees post spec
  pub guests : (v : ℕ) → without_map (post.guest v) ≡ without_map (spec.guest v)

-- all that and all slots are equal
pub record SlotsAgree (post spec : Contents) : Type 0 where
  pub guests : GuestsAgree post spec
  pub slots : (v : ℕ) → post.vms.slot v ≡ spec.vms.slot v

-- all of each guest of a slot below one is equal
abbrev pub GuestsAgreeBelow : Contents → Contents → ℕ → Type 0
GuestsAgreeBelow post spec slot =
    (v : ℕ) → v < slot → without_map (post.guest v) ≡ without_map (spec.guest v)

-- the first difference of two states: all that comes before it is equal
abbrev pub IsFirstOfState : Contents → Contents → Disagreement → Type 0
IsFirstOfState post spec (MapDiffers tree page x y) =
    IsFirstDifference post spec (MapDiffers tree page x y)
IsFirstOfState post spec (OwnerDiffers frame x y) =
    IsFirstDifference post spec (OwnerDiffers frame x y)
IsFirstOfState post spec (SharedPart part) =
    AuditAgrees post spec × IsFirstOfShared post.shared spec.shared part
IsFirstOfState post spec (GuestPart slot part) =
    PoolAgrees post spec
    × GuestsAgreeBelow post spec slot
    × IsFirstOfGuest slot (post.guest slot) (spec.guest slot) part
IsFirstOfState post spec (Vm slot) =
    GuestsAgree post spec × IsFirstApart post.vms.slot spec.vms.slot slot
IsFirstOfState post spec (Cpu cpu) = SlotsAgree post spec × IsFirstApart post.cpu spec.cpu cpu
IsFirstOfState post spec (ReplyDiffers said told) = ⊥

-- the call was made
abbrev pub is_done : Reply → Bool
is_done (Done value) = true
is_done other = false

-- the reply of a step is NoMemory, the step may allocate, and the model makes it
pub record WantsMemory (step : Step) (reply told : Reply) : Type 0 where
  pub reply_is : reply ≡ Refused NoMemory
  pub grows : may_grow step ≡ true
  pub made : is_done told ≡ true

-- the reply and all contents are the model's
pub record IsAsPredicted (reply : Reply) (post : Contents) (told : Reply × Reference) : Type 0 where
  pub reply_is : reply ≡ told.0
  pub contents_are : post ≡ told.1.contents

-- a step that ran out of memory changed nothing
pub record IsUnchanged (pre : Contents) (step : Step) (reply : Reply) (post : Contents)
    (told : Reply × Reference) : Type 0 where
  pub wants : WantsMemory step reply told.0
  pub contents_are : post ≡ pre

-- one of both
abbrev pub JudgeAgrees : Contents → Step → Reply → Contents → Reply × Reference → Type 0
JudgeAgrees pre step reply post told =
    IsAsPredicted reply post told ⊎ IsUnchanged pre step reply post told

-- the judgement agrees with each step of the model: with its reply, the contents before it and
-- those after it
abbrev pub StepsAgree : Type 0
StepsAgree =
    (l : Layout) (s t : Reference) (c : Call)
    → Steps l s c t
    → JudgeAgrees s.contents c.step c.reply t.contents (predict_step l s c.cpu c.step)

-- a step that ran out of memory changed something: the first difference from the state before
pub record IsFirstChange (pre : Contents) (step : Step) (reply : Reply) (post : Contents)
    (told : Reply × Reference) (d : Disagreement) : Type 0 where
  pub wants : WantsMemory step reply told.0
  pub first : IsFirstOfState post pre d

-- the reply is the model's, and the contents aren't: the first difference from the model's next
-- state
pub record IsFirstUntold (reply : Reply) (post : Contents) (told : Reply × Reference)
    (d : Disagreement) : Type 0 where
  pub reply_is : reply ≡ told.0
  pub first : IsFirstOfState post told.1.contents d

-- the reply is neither the model's nor that of a step that ran out of memory
pub record IsOtherReply (step : Step) (reply : Reply) (told : Reply × Reference)
    (said spec : Reply) : Type 0 where
  pub said_is : said ≡ reply
  pub spec_is : spec ≡ told.0
  pub differ : reply ≡ told.0 → ⊥
  pub is_no_want : WantsMemory step reply told.0 → ⊥

-- the first difference
abbrev pub IsFirstJudged : Contents → Step → Reply → Contents → Reply × Reference → Disagreement
    → Type 0
IsFirstJudged pre step reply post told (ReplyDiffers said spec) =
    IsOtherReply step reply told said spec
IsFirstJudged pre step reply post told d =
    IsFirstChange pre step reply post told d ⊎ IsFirstUntold reply post told d

-- the model's reply and next state for a step from a state
abbrev pub told_of : Ghost → ℕ → Step → Reply × Reference
told_of pre cpu step = predict_step (layout_of pre.layout) (ghost_state pre) cpu step
