-- What the judgement of a call by plain lists and by the layout's freedoms says, and why there is
-- none.
use Rattle.std.specs.Prelude.{◌≡◌, ◌⊎◌, ℕ, Bool, true, false, List, Option, Some, None, IsSome, option_map}
use Rattle.call_table.specs.declared.reply.Refusal.TheVariants.{Contended}
use Rattle.call_table.specs.declared.reply.Reply.{Reply}
use Rattle.call_table.specs.declared.reply.Reply.TheVariants.{Done, Refused}
use Rattle.call_table.specs.declared.reply.Value.TheVariants.{Nothing}
use Rattle.call_table.specs.declared.step.Step.{Step}
use Rattle.page_state.specs.Layouts.{Layout}
use Rattle.reference_model.specs.model.State.{Contents}
use Rattle.freedoms.specs.declared.Freedoms.{Freedoms}
use Rattle.free_judge.specs.Freely.{IsJudgedFreely, IsPredictedFreely}
use Rattle.ghost_judge.specs.declared.disagreement.Disagreement.{Disagreement}
use Rattle.ghost_judge.specs.declared.disagreement.Disagreement.TheVariants.{Reply as ReplyDiffers}
use Rattle.c_words.specs.declared.step.PlainStep.{PlainStep}
use Rattle.c_words.specs.Steps.{step_from_c}
use Rattle.c_states.specs.declared.judge.PlainCall.{PlainCall}
use Rattle.c_states.specs.declared.judge.Unjudged.{Unjudged}
use Rattle.c_states.specs.declared.judge.Unjudged.TheVariants as unjudged
use Rattle.c_states.specs.declared.layout.PlainLayout.{PlainLayout}
use Rattle.c_states.specs.declared.layout.PlainRegion.{PlainRegion}
use Rattle.c_states.specs.Faults.{AreTaken}
use Rattle.c_states.specs.Judged.{prediction_from_c, CanCall, IsJudged, IsUnjudged, IsUnjudgedAfter, IsUnmade, IsUnpredicted}
use Rattle.c_states.specs.Layouts.{layout_from_c}
use Rattle.c_states.specs.States.{Lists, contents_from_c}
use Rattle.c_judge.specs.declared.found.Found.{Found}
use Rattle.c_judge.specs.declared.found.Found.TheVariants.{Differs, Refusal, Stopped}
use Rattle.c_judge.specs.declared.found.Unfound.{Unfound}
use Rattle.c_judge.specs.declared.found.Unfound.TheVariants.{Freedoms as BadFreedoms, Call}
use Rattle.c_judge.specs.declared.reply.Said.{Said}
use Rattle.c_judge.specs.declared.reply.Said.TheVariants as said
use Rattle.c_judge.specs.Freedoms.{IsFreedomsFault, IsTakenAs}
use Rattle.c_judge.specs.Replies.{said_of}

-- the reply that the model gives to a step of the lists' state
pub record IsModelReply (l : PlainLayout) (regions : List PlainRegion) (before : Lists) (cpu : ℕ)
    (plain : PlainStep) (reply : Reply) : Type 0 where
  pub step : Step
  pub can : CanCall l regions before cpu plain step
  pub reply_is : reply ≡ (prediction_from_c l regions before cpu step).0

-- a disagreement on a state, or on a reply that the model has
abbrev pub differs : Disagreement → Found
differs d = Differs d

-- a disagreement on a reply that replaces a refusal given by number
abbrev pub renamed : ℕ → Disagreement → Found
renamed n (ReplyDiffers said spec) = Refusal n spec
renamed n d = Differs d

-- judged exactly: a call whose reply the model has, as it is judged; another one disagrees
abbrev pub IsFoundExactlyOf : PlainLayout → List PlainRegion → Lists → PlainCall → Lists → Said
    → Option Found → Type 0
IsFoundExactlyOf l regions before call after (said.Known reply) found =
    (o : Option Disagreement)
    × IsJudged l regions before call after o
    × (found ≡ option_map differs o)
IsFoundExactlyOf l regions before call after (said.Refusal n) found =
    (spec : Reply)
    × IsModelReply l regions before call.cpu call.step spec
    × (found ≡ Some (Refusal n spec))
IsFoundExactlyOf l regions before call after said.Stopped found =
    (spec : Reply)
    × IsModelReply l regions before call.cpu call.step spec
    × (found ≡ Some (Stopped spec))

pub record IsFoundExactly (l : PlainLayout) (regions : List PlainRegion) (before : Lists)
    (call : PlainCall) (after : Lists) (found : Option Found) : Type 0 where
  pub says : Said
  pub says_is : said_of call.reply ≡ Some says
  pub found_is : IsFoundExactlyOf l regions before call after says found

-- why a call isn't judged exactly
abbrev pub IsUnfoundExactly : PlainLayout → List PlainRegion → Lists → PlainCall → Lists → Unjudged
    → Type 0
IsUnfoundExactly l regions before call after unjudged.Step = step_from_c call.step ≡ None
IsUnfoundExactly l regions before call after unjudged.Reply =
    IsSome (step_from_c call.step) × (said_of call.reply ≡ None)
IsUnfoundExactly l regions before call after why =
    IsSome (said_of call.reply)
    × (IsUnjudged l regions before call after why
    ⊎ IsUnpredicted l regions before call.cpu call.step why)

-- the reply that the model gives, whatever the tables and free frames, to a call that names no
-- frame
abbrev pub IsModelReplyOnly : Freedoms → Layout → Contents → ℕ → Step → Reply → Type 0
IsModelReplyOnly w l before cpu step reply =
    (after : Contents) × IsPredictedFreely w l before cpu step (Done Nothing) reply after

module _ (w : Freedoms) (l : Layout) (cpus : ℕ) (before : Contents) (cpu : ℕ) (step : Step) where
  -- the lists after the call make a state, and this is found of it
  pub record IsCompared (reply : Reply) (after : Lists) (found : Option Disagreement) : Type 0 where
    pub taken : AreTaken cpus after
    pub judged : IsJudgedFreely w l before cpu step reply (contents_from_c after) found

  -- a refusal by a number that the model doesn't know counts as any refusal if that freedom is
  -- given; else it disagrees, and so does a call that stopped the machine
  abbrev pub IsFoundOf : Said → Lists → Option Found → Type 0
  IsFoundOf (said.Known reply) after found =
      (o : Option Disagreement) × IsCompared reply after o × (found ≡ option_map differs o)
  IsFoundOf (said.Refusal n) after found =
      ((w.any_refusal ≡ true)
      × ((o : Option Disagreement)
      × IsCompared (Refused Contended) after o
      × (found ≡ option_map (renamed n) o)))
      ⊎ ((w.any_refusal ≡ false)
      × ((spec : Reply)
      × IsModelReplyOnly w l before cpu step spec
      × (found ≡ Some (Refusal n spec))))
  IsFoundOf said.Stopped after found =
      (spec : Reply) × IsModelReplyOnly w l before cpu step spec × (found ≡ Some (Stopped spec))

-- judged up to the freedoms
pub record IsFoundFreely (w : Freedoms) (l : PlainLayout) (regions : List PlainRegion)
    (before : Lists) (call : PlainCall) (after : Lists) (found : Option Found) : Type 0 where
  pub step : Step
  pub can : CanCall l regions before call.cpu call.step step
  pub says : Said
  pub says_is : said_of call.reply ≡ Some says
  pub found_is : IsFoundOf w (layout_from_c l regions) l.cpus
      (contents_from_c before) call.cpu step says after found

-- the state after a call with such a reply is compared
abbrev pub is_compared : Freedoms → Said → Bool
is_compared w (said.Known reply) = true
is_compared w (said.Refusal n) = w.any_refusal
is_compared w said.Stopped = false

-- why a call that could be made isn't judged so: memory ran out, or the lists after it make no
-- state and are looked at
abbrev pub IsUncompared : Freedoms → Said → PlainLayout → List PlainRegion → Lists → Unjudged
    → Type 0
IsUncompared w says l regions after why =
    (why ≡ unjudged.NoMemory)
    ⊎ ((is_compared w says ≡ true) × IsUnjudgedAfter l regions after why)

-- why a call isn't judged so: the first that is true
abbrev pub IsUnfoundFreely : Freedoms → PlainLayout → List PlainRegion → Lists → PlainCall → Lists
    → Unjudged → Type 0
IsUnfoundFreely w l regions before call after unjudged.Step = step_from_c call.step ≡ None
IsUnfoundFreely w l regions before call after unjudged.Reply =
    IsSome (step_from_c call.step) × (said_of call.reply ≡ None)
IsUnfoundFreely w l regions before call after (unjudged.After why) =
    ((says : Said) × (said_of call.reply ≡ Some says) × (is_compared w says ≡ true))
    × ((step : Step) × CanCall l regions before call.cpu call.step step)
    × IsUnmade l regions after why
IsUnfoundFreely w l regions before call after unjudged.NoMemory = Unit {0}
IsUnfoundFreely w l regions before call after why =
    IsSome (said_of call.reply) × IsUnpredicted l regions before call.cpu call.step why

-- judged by the layout's freedoms
abbrev pub IsFoundBy : PlainLayout → List PlainRegion → Lists → PlainCall → Lists → Option Freedoms
    → Option Found → Type 0
IsFoundBy l regions before call after None found = IsFoundExactly l regions before call after found
IsFoundBy l regions before call after (Some w) found =
    IsFoundFreely w l regions before call after found

pub record IsFound (l : PlainLayout) (regions : List PlainRegion) (before : Lists)
    (call : PlainCall) (after : Lists) (found : Option Found) : Type 0 where
  pub freedoms : Option Freedoms
  pub taken : IsTakenAs l.freedoms freedoms
  pub judged : IsFoundBy l regions before call after freedoms found

-- why there is no judgement
abbrev pub IsUnfoundBy : PlainLayout → List PlainRegion → Lists → PlainCall → Lists
    → Option Freedoms → Unjudged → Type 0
IsUnfoundBy l regions before call after None why = IsUnfoundExactly l regions before call after why
IsUnfoundBy l regions before call after (Some w) why =
    IsUnfoundFreely w l regions before call after why

abbrev pub IsUnfound : PlainLayout → List PlainRegion → Lists → PlainCall → Lists → Unfound → Type 0
IsUnfound l regions before call after (BadFreedoms fault) = IsFreedomsFault l.freedoms fault
IsUnfound l regions before call after (Call why) =
    (w : Option Freedoms) × IsTakenAs l.freedoms w × IsUnfoundBy l regions before call after w why
