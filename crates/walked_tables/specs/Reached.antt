-- The tables that a walk reaches, in order, and where it comes to one again.
use Rattle.std.specs.Prelude.{◌≡◌, ℕ, ◌==◌, List, ◌∷◌, ◌++◌, AllPairs, Contains, Option, find}
use Rattle.walked_tables.specs.declared.reached.Reached.{Reached}
use Rattle.walked_tables.specs.declared.reached.Stopped.{Stopped}
use Rattle.walked_tables.specs.declared.reached.Stopped.TheVariants.{Again, NoMemory}

-- a table has a frame
abbrev pub IsOfFrame : ℕ → Reached → Type 0
IsOfFrame frame r = r.frame ≡ frame

-- the first table of a list that has a frame
abbrev pub reached_of : List Reached → ℕ → Option Reached
reached_of met frame = find (λ r. r.frame == frame) met

-- two tables have different frames
abbrev pub AreOtherFrames : Reached → Reached → Type 0
AreOtherFrames r s = r.frame ≡ s.frame → ⊥

-- of the tables in the order in which they are reached, one is the first that has the frame of an
-- earlier one
pub record IsAgain (tables : List Reached) (first second : Reached) : Type 0 where
  pub front : List Reached
  pub back : List Reached
  pub in_order : tables ≡ front ++ second ∷ back
  pub apart : AllPairs AreOtherFrames front
  pub earlier : Contains front first
  pub frame : IsOfFrame second.frame first

-- a walk that reaches these tables has reason to end early
abbrev pub IsStopped : List Reached → Stopped → Type 0
IsStopped tables (Again first second) = IsAgain tables first second
IsStopped tables NoMemory = Unit {0}
