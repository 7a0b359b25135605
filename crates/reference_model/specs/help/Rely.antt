-- The facts that a step may rely on if the parts that it uses are those of a state that a run
-- leaves.
use Rattle.std.specs.Prelude.{◌≡◌, ℕ, ◌<◌, Bool, Option, Some, None, Ok}
use Rattle.call_table.specs.declared.reply.Reply.{Reply}
use Rattle.call_table.specs.declared.step.Step.{Step}
use Rattle.page_state.specs.Layouts.{Layout}
use Rattle.reference_model.specs.declared.changes.Changes.{Changes}
use Rattle.reference_model.specs.help.Answers.{CarriesOut}
use Rattle.reference_model.specs.model.Decides.{decides}
use Rattle.reference_model.specs.help.ChangeLaws.{AllFit, PartsFit, TouchedFits}
use Rattle.reference_model.specs.model.Rules.{names, guest_slot}
use Rattle.reference_model.specs.help.RowChanges.{with_touched_rows}
use Rattle.reference_model.specs.model.Step.{rule_of, fails, made, changed, Answered}
use Rattle.reference_model.specs.model.Used.{Used}
use Rattle.reference_model.specs.model.Reached.{IsReached}

-- the facts that a step may rely on: its slot is one of the 64; the changes that it decides on can
-- be written in the maps and made to the slots and the guest; and the rows that it finds again are
-- those that follow from its changes
pub record CanRely (l : Layout) (cpu : ℕ) (slot : Option ℕ) (step : Step) (x : Used) : Type 0 where
  pub slot_low : (v : ℕ) → slot ≡ Some v → v < 64
  pub fit : (h : Changes) → decides l cpu slot step x ≡ Ok h → AllFit l.depth h
  pub parts : (h : Changes) → decides l cpu slot step x ≡ Ok h → PartsFit l h x.guest
  pub touched : (h : Changes) → decides l cpu slot step x ≡ Ok h → TouchedFits l cpu slot h
  pub rows : fails l cpu slot step x ≡ None
      → made l cpu slot step x
      ≡ with_touched_rows l cpu slot (rule_of l cpu slot step x).changes
      (changed l.depth (rule_of l cpu slot step x).changes x)

-- a step may rely on them if the parts that it uses are those of a state that a run leaves
abbrev pub ReachedRelies : Type 0
ReachedRelies =
    (l : Layout) (cpu : ℕ) (slot : Option ℕ) (step : Step) (x : Used)
    → cpu < l.config.cpus
    → slot ≡ guest_slot x.cpu step
    → ∥ IsReached l (names step) slot cpu x ∥₁
    → CanRely l cpu slot step x

-- a step that may rely on them is answered by carrying out its decision
abbrev pub RelyingAnswers : Type 0
RelyingAnswers =
    (l : Layout) (cpu : ℕ) (slot : Option ℕ) (step : Step) (x : Used) (wants : Bool) (h : Changes)
    (reply : Reply) (y : Used)
    → CanRely l cpu slot step x
    → decides l cpu slot step x ≡ Ok h
    → CarriesOut l cpu slot step wants h x reply y
    → Answered l cpu slot step wants x reply y
