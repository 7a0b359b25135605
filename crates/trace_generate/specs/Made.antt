-- What a generated trace is (profile).
use Rattle.std.specs.Prelude.{◌≡◌, ℕ, List, [], ◌∷◌, ◌++◌, codes, length}
use Rattle.page_state.specs.Layouts.{Layout}
use Rattle.page_state.specs.LayoutView.{layout_of}
use Rattle.reference_model.specs.model.Boot.{boot}
use Rattle.reference_model.specs.model.State.{Reference}
use Rattle.ghost_spec.specs.declared.lists.GhostLists.{GhostLists}
use Rattle.ghost_spec.specs.States.{ghost_state}
use Rattle.trace_generate.specs.declared.line.StepLine.{StepLine}
use Rattle.trace_generate.specs.declared.options.Options.{Options}
use Rattle.trace_generate.specs.Lines.{text_of_line, text_of_settings}
use Rattle.trace_generate.specs.Machine.{IsLayoutOf, settings_of}
use Rattle.trace_generate.specs.Walks.{IsWalk}

-- the lines of calls, each with its end
abbrev pub text_of_calls : List StepLine → List ℕ
text_of_calls [] = []
text_of_calls (c ∷ cs) = text_of_line c ++ codes "\n" ++ text_of_calls cs

-- a number of calls so far: a walk of the model from a state to another, with the lines of the
-- calls appended to bytes
pub record IsSoFar (l : Layout) (hostile : ℕ) (start : Reference) (begun : List ℕ) (number : ℕ)
    (state : Reference) (bytes : List ℕ) : Type 0 where
  pub calls : List StepLine
  pub count : length calls ≡ number
  pub walk : IsWalk l hostile 0 start calls state
  pub text : bytes ≡ begun ++ text_of_calls calls

-- this number of calls was made, from lists that say one state to lists that say another, and their
-- lines were appended to bytes
abbrev pub AreCallsMade : ℕ → ℕ → GhostLists → GhostLists → List ℕ → List ℕ → Type 0
AreCallsMade hostile count old new begun bytes =
    IsSoFar (layout_of old.layout) hostile (ghost_state old) begun count (ghost_state new) bytes

-- the bytes of a trace of these options: the settings, and then `steps` calls, which are a walk of
-- the model from the boot of these settings
pub record IsTrace (steps : ℕ) (o : Options) (bytes : List ℕ) : Type 0 where
  pub layout : Layout
  pub of_options : IsLayoutOf steps o layout
  pub calls : List StepLine
  pub end : Reference
  pub count : length calls ≡ steps
  pub walk : IsWalk layout o.hostile 0 (boot layout) calls end
  pub text : bytes ≡ text_of_settings (settings_of steps o) ++ codes "\n" ++ text_of_calls calls
