-- States that nodes share, and the steps that were made from them.
use Rattle.std.specs.Prelude.{◌≡◌, List, All, Some, slice_get}
use Rattle.page_state.specs.Layouts.{Layout}
use Rattle.page_state.specs.LayoutView.{layout_of}
use Rattle.call_table.specs.declared.reply.Reply.{Reply}
use Rattle.reference_model.specs.model.State.{Reference}
use Rattle.ghost_spec.specs.declared.lists.GhostLists.{GhostLists}
use Rattle.ghost_spec.specs.States.{ghost_state}
use Rattle.race_outcomes.specs.declared.kept.Known.{Known}
use Rattle.race_outcomes.specs.declared.finding.OutcomesFault.{OutcomesFault}
use Rattle.race_outcomes.specs.declared.finding.OutcomesFault.TheVariants.{TooMany, Generation, NoMemory}
use Rattle.race_outcomes.specs.declared.kept.Made.{Made}
use Rattle.race_outcomes.specs.declared.kept.States.{States}
use Rattle.race_outcomes.specs.declared.node.Turn.{Turn}
use Rattle.race_outcomes.specs.Orders.{IsLastGeneration, model_reply}

-- why a step isn't made: a generation, or memory
abbrev pub IsTurnFault : Reference → Turn → OutcomesFault → Type 0
IsTurnFault s turn (TooMany made) = ⊥
IsTurnFault s turn Generation = IsLastGeneration s turn
IsTurnFault s turn NoMemory = Unit {0}

-- states are of a layout
abbrev pub AreOfLayout : Layout → List GhostLists → Type 0
AreOfLayout l gs = All (λ g. layout_of g.layout ≡ l) gs

-- from a state the step leads to another of the layout, with this reply
pub record LeadsTo (l : Layout) (s : Reference) (turn : Turn) (reply : Reply)
    (g : GhostLists) : Type 0 where
  pub told : (reply, ghost_state g) ≡ model_reply l s turn
  pub layout : layout_of g.layout ≡ l

-- so does the step at the place of one that was made
abbrev pub IsMadeFrom : Layout → Reference → List Turn → Made → Type 0
IsMadeFrom l s turns m =
    (turn : Turn) → slice_get turns m.place ≡ Some turn → LeadsTo l s turn m.reply m.state

-- a state of the layout, and steps that were made from it
pub record IsKnown (l : Layout) (turns : List Turn) (k : Known) : Type 0 where
  pub layout : layout_of k.state.layout ≡ l
  pub made : All (IsMadeFrom l (ghost_state k.state) turns) k.made.items

-- known states stay such
abbrev pub StayKnown : Layout → List Known → List Known → Type 0
StayKnown l old new = (turns : List Turn) → All (IsKnown l turns) old → All (IsKnown l turns) new

-- known states and those after them are of the layout
pub record AreKnown (l : Layout) (turns : List Turn) (ks : List Known)
    (after : States) : Type 0 where
  pub known : All (IsKnown l turns) ks
  pub layouts : AreOfLayout l after.states.items

-- a state is known, and those after it are of its layout
pub record IsAtHand (g : GhostLists) (turns : List Turn) (k : Known) (after : States) : Type 0 where
  pub same : ghost_state k.state ≡ ghost_state g
  pub known : IsKnown (layout_of g.layout) turns k
  pub layouts : AreOfLayout (layout_of g.layout) after.states.items
