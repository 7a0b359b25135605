-- Runs of calls.
use Rattle.std.specs.Prelude.{◌≡◌, ◌<◌, List, [], ◌∷◌, All}
use Rattle.call_table.specs.declared.reply.Call.{Call}
use Rattle.reference_model.specs.model.State.{Reference}
use Rattle.page_state.specs.Layouts.{Layout}
use Rattle.reference_model.specs.model.Step.{Steps}
use Rattle.reference_model.specs.model.Boot.{boot}

-- the calls, one after another, lead from one state to another
abbrev pub Runs : {S : Type 0} → (S → Call → S → Type 0) → S → List Call → S → Type 0
Runs Go s [] t = s ≡ t
Runs {S} Go s (c ∷ cs) t = (between : S) × Go s c between × Runs Go between cs t

-- run: the calls are of the layout's CPUs, and lead by reference steps from the boot state to this
-- one
pub record IsRun (l : Layout) (cs : List Call) (t : Reference) : Type 0 where
  pub cpus : All (λ c. c.cpu < l.config.cpus) cs
  pub leads : Runs (Steps l) (boot l) cs t
