-- What the judgement and the prediction of a call by plain lists say, and why there is none.
use Rattle.std.specs.Prelude.{◌≡◌, ◌<◌, ◌≤◌, ◌↔◌, ℕ, List, Option, Some, None, IfSome, IsSome}
use Rattle.call_table.specs.declared.reply.Reply.{Reply}
use Rattle.call_table.specs.declared.step.Step.{Step}
use Rattle.reference_model.specs.model.State.{Reference}
use Rattle.reference_model.specs.model.Step.{predict_step}
use Rattle.ghost_spec.specs.Kept.{HasNextGeneration}
use Rattle.ghost_judge.specs.declared.disagreement.Disagreement.{Disagreement}
use Rattle.ghost_judge.specs.Judgements.{JudgeAgrees, IsFirstJudged}
use Rattle.c_words.specs.declared.reply.PlainReply.{PlainReply}
use Rattle.c_words.specs.declared.step.PlainStep.{PlainStep}
use Rattle.c_words.specs.Said.{reply_from_c}
use Rattle.c_words.specs.Steps.{step_from_c}
use Rattle.c_words.specs.Written.{reply_written}
use Rattle.c_states.specs.declared.judge.PlainCall.{PlainCall}
use Rattle.c_states.specs.declared.judge.Unjudged.{Unjudged}
use Rattle.c_states.specs.declared.judge.Unjudged.TheVariants as unjudged
use Rattle.c_states.specs.declared.judge.Unmade.{Unmade}
use Rattle.c_states.specs.declared.judge.Unmade.TheVariants as unmade
use Rattle.c_states.specs.declared.layout.PlainLayout.{PlainLayout}
use Rattle.c_states.specs.declared.layout.PlainRegion.{PlainRegion}
use Rattle.c_states.specs.Faults.{AreTaken, IsPlainFault}
use Rattle.c_states.specs.Layouts.{layout_from_c, IsLayoutFault, IsTakenLayout}
use Rattle.c_states.specs.States.{Lists, contents_from_c, state_from_c}
use Rattle.c_states.specs.Told.{in_pool_order, AreWellFormed}

-- why a layout and lists make no state: the first that is true
abbrev pub IsUnmade : PlainLayout → List PlainRegion → Lists → Unmade → Type 0
IsUnmade l regions p (unmade.Layout fault) = IsLayoutFault l regions fault
IsUnmade l regions p (unmade.State fault) = IsTakenLayout l regions × IsPlainFault l.cpus p fault

-- what the model says of a step of the lists' state
abbrev pub prediction_from_c : PlainLayout → List PlainRegion → Lists → ℕ → Step → Reply × Reference
prediction_from_c l regions p cpu step =
    predict_step (layout_from_c l regions) (state_from_c p) cpu step

-- a CPU can make the step on the lists' state: layout and lists make one, the CPU is one of the
-- layout's, and a generation that rises is still a number of 64 bits
pub record CanCall (l : PlainLayout) (regions : List PlainRegion) (before : Lists) (cpu : ℕ)
    (plain : PlainStep) (step : Step) : Type 0 where
  pub step_is : step_from_c plain ≡ Some step
  pub cpu_is : cpu < l.cpus
  pub layout : IsTakenLayout l regions
  pub taken : AreTaken l.cpus before
  pub generation : HasNextGeneration ((contents_from_c before).cpu cpu).ticket step

-- the call is judged: it could be made, and the lists after it make a state. Nothing is found if
-- and only if the reply and the state after it are the model's, or a step that needs memory changed
-- nothing; else the first difference
pub record IsJudged (l : PlainLayout) (regions : List PlainRegion) (before : Lists)
    (call : PlainCall) (after : Lists) (found : Option Disagreement) : Type 0 where
  pub step : Step
  pub reply : Reply
  pub can : CanCall l regions before call.cpu call.step step
  pub reply_is : reply_from_c call.reply ≡ Some reply
  pub after_taken : AreTaken l.cpus after
  pub none : (found ≡ None)
      ↔ JudgeAgrees (contents_from_c before) step reply (contents_from_c after)
      (prediction_from_c l regions before call.cpu step)
  pub first : IfSome found
      (IsFirstJudged (contents_from_c before) step reply (contents_from_c after)
      (prediction_from_c l regions before call.cpu step))

-- the reply to a step on a state is the model's, with 0 in each field that has no part in its value
pub record IsReplyPredicted (l : PlainLayout) (regions : List PlainRegion) (before : Lists)
    (cpu : ℕ)
    (plain : PlainStep) (reply : PlainReply) : Type 0 where
  pub step : Step
  pub can : CanCall l regions before cpu plain step
  pub reply_is : reply ≡ reply_written (prediction_from_c l regions before cpu step).0

-- and the lists say the state after it, with each pool in order, by members of known numbers
pub record IsStatePredicted (l : PlainLayout) (regions : List PlainRegion) (before : Lists)
    (cpu : ℕ) (plain : PlainStep) (reply : PlainReply) (after : Lists) : Type 0 where
  pub step : Step
  pub can : CanCall l regions before cpu plain step
  pub reply_is : reply ≡ reply_written (prediction_from_c l regions before cpu step).0
  pub after_is : contents_from_c after
      ≡ in_pool_order (prediction_from_c l regions before cpu step).1.contents
  pub after_told : AreWellFormed l.cpus after

-- the step of a call releases a slot whose generation can't rise
pub record HasLastGeneration (before : Lists) (cpu : ℕ) (plain : PlainStep) : Type 0 where
  pub step : Step
  pub step_is : step_from_c plain ≡ Some step
  pub last : ¬ HasNextGeneration ((contents_from_c before).cpu cpu).ticket step

-- why a step isn't predicted: the first reason that is true
abbrev pub IsUnpredicted : PlainLayout → List PlainRegion → Lists → ℕ → PlainStep → Unjudged
    → Type 0
IsUnpredicted l regions before cpu plain unjudged.Step = step_from_c plain ≡ None
IsUnpredicted l regions before cpu plain unjudged.Reply = ⊥
IsUnpredicted l regions before cpu plain unjudged.Cpu = IsSome (step_from_c plain) × (l.cpus ≤ cpu)
IsUnpredicted l regions before cpu plain (unjudged.Before why) =
    IsSome (step_from_c plain) × (cpu < l.cpus) × IsUnmade l regions before why
IsUnpredicted l regions before cpu plain unjudged.Generation =
    (cpu < l.cpus)
    × IsTakenLayout l regions
    × AreTaken l.cpus before
    × HasLastGeneration before cpu plain
IsUnpredicted l regions before cpu plain (unjudged.After why) = ⊥
IsUnpredicted l regions before cpu plain unjudged.NoMemory = Unit {0}

-- why a call isn't judged: the first that is true. The reply is tested after the step, and the
-- state after it last
abbrev pub IsUnjudged : PlainLayout → List PlainRegion → Lists → PlainCall → Lists → Unjudged
    → Type 0
IsUnjudged l regions before call after unjudged.Step = step_from_c call.step ≡ None
IsUnjudged l regions before call after unjudged.Reply =
    IsSome (step_from_c call.step) × (reply_from_c call.reply ≡ None)
IsUnjudged l regions before call after (unjudged.After why) =
    IsSome (reply_from_c call.reply)
    × ((step : Step) × CanCall l regions before call.cpu call.step step)
    × IsUnmade l regions after why
IsUnjudged l regions before call after unjudged.NoMemory = Unit {0}
IsUnjudged l regions before call after other =
    IsSome (reply_from_c call.reply) × IsUnpredicted l regions before call.cpu call.step other

-- why it isn't, if it could be made
abbrev pub IsUnjudgedAfter : PlainLayout → List PlainRegion → Lists → Unjudged → Type 0
IsUnjudgedAfter l regions after (unjudged.After why) = IsUnmade l regions after why
IsUnjudgedAfter l regions after unjudged.NoMemory = Unit {0}
IsUnjudgedAfter l regions after other = ⊥
