-- Calls that are suggested: which of them the model refuses (profile).
use Rattle.std.specs.Prelude.{◌≡◌, ℕ, ◌<◌, Bool, nat_lt}
use Rattle.page_state.specs.Layouts.{Layout}
use Rattle.rand_pcg.specs.Lcg.{Lcg}
use Rattle.reference_model.specs.model.State.{Reference}
use Rattle.trace_generate.specs.declared.line.StepLine.{StepLine}
use Rattle.trace_generate.specs.Chance.{drawn, seeded}
use Rattle.trace_generate.specs.Reading.{IsIn64Bits}
use Rattle.trace_generate.specs.Walks.{is_refused}

-- whether a number below 100 that is drawn next is below a percentage
abbrev pub is_chance : Lcg → ℕ → Bool
is_chance chance percent = nat_lt (drawn chance 100) percent

-- a call whose CPU is one of the layout's, whose numbers are of 64 bits, and which the model
-- refuses if `hostile`, and else makes
pub record IsChosen (l : Layout) (s : Reference) (hostile : Bool) (c : StepLine) : Type 0 where
  pub cpu : c.cpu < l.config.cpus
  pub numbers : IsIn64Bits c.step
  pub wanted : is_refused l s c ≡ hostile

-- the model refuses it if and only if the first number drawn, from 0 to 99, is below `hostile`
abbrev pub IsSuggested : Layout → Reference → ℕ → ℕ → StepLine → Type 0
IsSuggested l s random hostile c = IsChosen l s (is_chance (seeded random) hostile) c
