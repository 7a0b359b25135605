-- Calls that are suggested, and why none is.
use Rattle.std.specs.Prelude.{◌≡◌, ◌<◌, ◌≤◌, ℕ, List, Some}
use Rattle.call_table.specs.declared.step.Step.{Step}
use Rattle.c_words.specs.Steps.{step_from_c}
use Rattle.c_states.specs.declared.layout.PlainLayout.{PlainLayout}
use Rattle.c_states.specs.declared.layout.PlainRegion.{PlainRegion}
use Rattle.c_states.specs.Faults.{AreTaken}
use Rattle.c_states.specs.Judged.{IsUnmade}
use Rattle.c_states.specs.Layouts.{layout_from_c, IsTakenLayout}
use Rattle.c_states.specs.States.{Lists, state_from_c}
use Rattle.trace_generate.specs.Suggested.{IsSuggested}
use Rattle.c_calls.specs.declared.suggest.Suggested.{Suggested}
use Rattle.c_calls.specs.declared.suggest.Unsuggested.{Unsuggested}
use Rattle.c_calls.specs.declared.suggest.Unsuggested.TheVariants as unsuggested

-- a call of the model, which it refuses if and only if chance says so, on a layout and lists that
-- make a state
pub record IsSuggestedCall (l : PlainLayout) (regions : List PlainRegion) (p : Lists)
    (random hostile : ℕ) (told : Suggested) : Type 0 where
  pub step : Step
  pub step_is : step_from_c told.step ≡ Some step
  pub layout : IsTakenLayout l regions
  pub taken : AreTaken l.cpus p
  pub percent : hostile ≤ 100
  pub call : IsSuggested (layout_from_c l regions) (state_from_c p) random hostile
      (record { cpu = told.cpu; step = step })

-- why none is: the first that is true
abbrev pub IsUnsuggested : PlainLayout → List PlainRegion → Lists → ℕ → Unsuggested → Type 0
IsUnsuggested l regions p hostile unsuggested.Hostile = 100 < hostile
IsUnsuggested l regions p hostile unsuggested.Cpus = (hostile ≤ 100) × (l.cpus ≡ 0)
IsUnsuggested l regions p hostile (unsuggested.State why) =
    (hostile ≤ 100) × (0 < l.cpus) × IsUnmade l regions p why
IsUnsuggested l regions p hostile unsuggested.NoMemory = Unit {0}
