-- Walks along the reference step, except that memory never runs out: which calls they have, and
-- which of these the model refuses (profile).
use Rattle.std.specs.Prelude.{◌≡◌, ◌⊎◌, ℕ, ◌+◌, ◌*◌, ◌/◌, ◌<◌, Bool, true, false, not, ◌==◌, List, [], ◌∷◌}
use Rattle.page_state.specs.Layouts.{Layout}
use Rattle.reference_model.specs.model.State.{Reference}
use Rattle.reference_model.specs.model.Step.{predict_step}
use Rattle.call_table.specs.declared.reply.Reply.{Reply}
use Rattle.call_table.specs.declared.reply.Reply.TheVariants.{Done, Refused}
use Rattle.call_table.specs.declared.step.Step.TheVariants.{OwnerOf}
use Rattle.trace_generate.specs.declared.line.StepLine.{StepLine}
use Rattle.trace_generate.specs.Reading.{IsIn64Bits}

-- whether the call of a number, counted from 0, is to be refused: of the first n calls n * hostile
-- / 100 are
abbrev pub is_hostile : ℕ → ℕ → Bool
is_hostile hostile number = not ((number + 1) * hostile / 100 == number * hostile / 100)

abbrev pub is_refusal : Reply → Bool
is_refusal (Done value) = false
is_refusal (Refused why) = true

-- whether the model refuses a call in a state
abbrev pub is_refused : Layout → Reference → StepLine → Bool
is_refused l s c = is_refusal (predict_step l s c.cpu c.step).0

-- the state after a call
abbrev pub after : Layout → Reference → StepLine → Reference
after l s c = (predict_step l s c.cpu c.step).1

-- a call that is to be refused is; any other is made, or asks who owns the first page of memory
abbrev pub IsAsWanted : Layout → Bool → Reference → StepLine → Type 0
IsAsWanted l true s c = is_refused l s c ≡ true
IsAsWanted l false s c = (is_refused l s c ≡ false) ⊎ (c.step ≡ OwnerOf 0x40000)

-- a call of a walk: its CPU is one of the layout's, its numbers are of 64 bits, and it is refused
-- or made as asked
pub record IsCallOf (l : Layout) (hostile : Bool) (s : Reference) (c : StepLine) : Type 0 where
  pub cpu : c.cpu < l.config.cpus
  pub numbers : IsIn64Bits c.step
  pub wanted : IsAsWanted l hostile s c

-- calls from a number on lead by the model from one state to another, each refused or made as asked
abbrev pub IsWalk : Layout → ℕ → ℕ → Reference → List StepLine → Reference → Type 0
IsWalk l hostile number s [] t = s ≡ t
IsWalk l hostile number s (c ∷ cs) t =
    IsCallOf l (is_hostile hostile number) s c × IsWalk l hostile (number + 1) (after l s c) cs t
