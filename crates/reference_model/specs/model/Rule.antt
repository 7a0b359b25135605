-- The form of a call rule: its inputs, its tests in order with a text for each, and the changes on
-- Ok.
use Rattle.std.specs.Prelude.{ℕ, Bool, true, Option, List, codes}
use Rattle.page_state.specs.Layouts.{Layout}
use Rattle.reference_model.specs.declared.changes.Changes.{Changes}
use Rattle.reference_model.specs.model.Changes.{no_changes}
use Rattle.reference_model.specs.model.Used.{Used}

-- the inputs of a rule: the layout, the CPU's number, the slot of its guest, and the parts that the
-- call uses
pub record Reads : Type 0 where
  pub layout : Layout
  pub id : ℕ
  pub slot : Option ℕ
  pub used : Used

abbrev pub reads : Layout → ℕ → Option ℕ → Used → Reads
reads l cpu slot x = record { layout = l; id = cpu; slot = slot; used = x }

-- a test: whether it passes, and a text for the reason if it fails
pub record Test : Type 0 where
  pub passes : Bool
  pub failing : List ℕ

infix 4 ◌otherwise◌
abbrev pub ◌otherwise◌ : Bool → List ℕ → Test
b otherwise words = record { passes = b; failing = words }

-- a call rule: its tests, in the order in which they are made, and the changes if each passes
pub record Rule : Type 0 where
  pub valid : Test
  pub has_vm : Test
  pub ready : Test
  pub allowed : Test
  pub changes : Changes

-- each test passes, and nothing changes
abbrev pub fine : Rule
fine = record {
  valid = true otherwise codes "an argument is out of its range";
  has_vm = true otherwise codes "there is no such VM";
  ready = true otherwise codes "what the call needs is in use";
  allowed = true otherwise codes "the pages or frames aren't in the state that the call requires";
  changes = no_changes;
}
