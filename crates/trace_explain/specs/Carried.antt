-- What carrying out one line leaves.
use Rattle.std.specs.Prelude.{◌≡◌, ℕ, Bool, List, [], Option, Some, None, Ok, Err}
use Rattle.ghost_oracle.specs.Found.{HasRowsOf}
use Rattle.ghost_spec.specs.declared.lists.GhostLists.{GhostLists}
use Rattle.ghost_spec.specs.States.{contents_in, ghost_state}
use Rattle.state_changes.specs.Changed.{ReportsAll}
use Rattle.state_changes.specs.Together.{Adds}
use Rattle.call_table.specs.declared.step.Step.{Step}
use Rattle.trace_explain.specs.Explained.{IsBlock}
use Rattle.trace_text.specs.declared.fault.Fault.{Fault}
use Rattle.trace_text.specs.declared.report.ReportLine.{ReportLine}
use Rattle.trace_text.specs.declared.session.Stop.TheVariants as stops
use Rattle.trace_text.specs.Oracles.{agreed}
use Rattle.trace_text.specs.Replay.{IsPlayed}
use Rattle.trace_text.specs.Session.{Standing}
use Rattle.trace_text.specs.Worlds.{Machine}

-- a line was carried out, and its block is added to the text; or it has a fault, and nothing is
-- added yet
abbrev pub IsCarried : Bool → ℕ → List ℕ → Standing → List ℕ → Standing → List ℕ → Option Fault
    → Type 0
IsCarried shown number line old before new after None =
    (reported : List ReportLine)
    × IsPlayed agreed number line old (Ok reported) new
    × Adds (IsBlock shown line old reported new) before after
IsCarried shown number line old before new after (Some fault) =
    IsPlayed agreed number line old (Err (stops.Fault fault)) new × (after ≡ before)

-- the state of a machine on lists
pub record IsStateOf (m : Machine) (g : GhostLists) : Type 0 where
  pub state : ghost_state g ≡ m.state
  pub frames : HasRowsOf m.layout g

-- the state before a step, if there is a machine and a step
abbrev pub IsBefore : Option Machine → Option (ℕ × Step) → Option GhostLists → Type 0
IsBefore (Some m) (Some asked) (Some g) = IsStateOf m g
IsBefore (Some m) (Some asked) None = ⊥
IsBefore machine asked None = Unit {0}
IsBefore machine asked (Some g) = ⊥

-- the state has the rows of a machine's memory
abbrev pub HasFrames : Option GhostLists → Option Machine → Type 0
HasFrames (Some g) (Some n) = HasRowsOf n.layout g
HasFrames g machine = Unit {0}

-- what changed from a state to that of a machine
abbrev pub ReportsFrom : Option GhostLists → Option (ℕ × Step) → Option Machine → List ℕ → Type 0
ReportsFrom (Some g) (Some (cpu, step)) (Some n) text =
    ReportsAll (contents_in g) n.state.contents cpu text
ReportsFrom g asked machine text = text ≡ []
