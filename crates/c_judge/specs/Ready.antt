-- A step that a CPU can make of a state in numbers.
use Rattle.std.specs.Prelude.{◌≡◌, ℕ, List}
use Rattle.call_table.specs.declared.step.Step.{Step}
use Rattle.page_state.specs.LayoutView.{layout_of}
use Rattle.c_words.specs.declared.step.PlainStep.{PlainStep}
use Rattle.ghost_spec.specs.declared.state.Ghost.{Ghost}
use Rattle.ghost_spec.specs.States.{ghost_state}
use Rattle.c_states.specs.declared.layout.PlainLayout.{PlainLayout}
use Rattle.c_states.specs.declared.layout.PlainRegion.{PlainRegion}
use Rattle.c_states.specs.Judged.{CanCall}
use Rattle.c_states.specs.Layouts.{layout_from_c}
use Rattle.c_states.specs.States.{Lists, state_from_c}

-- the CPU can make the step of the lists' state, and that is the state
pub record IsCallable (l : PlainLayout) (regions : List PlainRegion) (before : Lists) (cpu : ℕ)
    (plain : PlainStep) (step : Step) (pre : Ghost) : Type 0 where
  pub can : CanCall l regions before cpu plain step
  pub state : ghost_state pre ≡ state_from_c before
  pub layout : layout_of pre.layout ≡ layout_from_c l regions
  pub cpus : pre.layout.config.cpus ≡ l.cpus
