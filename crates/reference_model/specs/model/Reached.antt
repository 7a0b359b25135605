-- The parts that a call uses, as a run leaves them.
use Rattle.std.specs.Prelude.{◌≡◌, ℕ, List, Option}
use Rattle.call_table.specs.declared.reply.Call.{Call}
use Rattle.page_state.specs.Layouts.{Layout}
use Rattle.reference_model.specs.model.Boot.{CanBoot}
use Rattle.reference_model.specs.model.Parts.{Names}
use Rattle.reference_model.specs.model.Run.{IsRun}
use Rattle.reference_model.specs.model.State.{Reference}
use Rattle.reference_model.specs.model.Used.{Used, used_of}

-- a call's parts are those of some state that a run leaves
pub record IsReached (l : Layout) (n : Names) (slot : Option ℕ) (cpu : ℕ) (x : Used) : Type 0 where
  pub ready : CanBoot l
  pub log : List Call
  pub state : Reference
  pub run : IsRun l log state
  pub used : x ≡ used_of n slot cpu state.contents
