-- What the test of a state answers C.
use Rattle.std.specs.Prelude.{◌≡◌, ◌⊎◌, ◌↔◌, ◌<◌, ◌==◌, ℕ, ℤ, pos, negsuc, Bool, true, false, List, length, take, drop, IfSome, IsSome, Option, Some, None, if◌then◌else◌}
use Rattle.page_state.specs.Layouts.{Layout}
use Rattle.page_state.specs.LayoutView.{layout_of}
use Rattle.reference_model.specs.model.State.{Contents}
use Rattle.ghost_spec.specs.declared.lists.GhostLists.{GhostLists}
use Rattle.ghost_spec.specs.States.{contents_in}
use Rattle.ghost_legal.specs.declared.finding.Illegal.{Illegal}
use Rattle.ghost_legal.specs.Texts.{text_of_illegal}
use Rattle.ghost_legal.specs.Told.{IsLegalBy, IsWhyIllegal}
use Rattle.c_states.specs.declared.layout.PlainLayout.{PlainLayout}
use Rattle.c_states.specs.declared.layout.PlainRegion.{PlainRegion}
use Rattle.c_states.specs.Faults.{AreTaken}
use Rattle.c_states.specs.Judged.{IsUnmade}
use Rattle.c_states.specs.Layouts.{layout_from_c, IsTakenLayout}
use Rattle.c_states.specs.States.{Lists, contents_from_c}
use Rattle.pkvm_oracle.specs.declared.judged.PlainRefused.{PlainRefused}
use Rattle.pkvm_oracle.specs.declared.legal.Untested.{Untested}
use Rattle.pkvm_oracle.specs.declared.legal.Untested.TheVariants.{Flags, State, NoMemory}
use Rattle.pkvm_oracle.specs.Refusals.{of_fault, refused_by_made, status_by_made}

-- whether flags ask that each tree is the coarsest of its map: 0 does, 1 doesn't, and others are
-- unknown
abbrev pub asks_for_trees : ℕ → Option Bool
asks_for_trees n = if n == 0 then Some true else if n == 1 then Some false else None

-- contents are tested: no fault is given if and only if they are legal; else lists that say them
-- have the fault, and none of a kind before it
pub record IsTestedIn (trees : Bool) (l : Layout) (s : Contents)
    (told : Option Illegal) : Type 0 where
  pub none : (told ≡ None) ↔ IsLegalBy trees l s
  pub first : IfSome told (IsWhyIllegal trees l s)

-- a state on lists
abbrev pub IsTestedFrom : Bool → GhostLists → Option Illegal → Type 0
IsTestedFrom trees g told = IsTestedIn trees (layout_of g.layout) (contents_in g) told

-- and one on plain lists, which make it, by known flags
pub record IsTested (l : PlainLayout) (regions : List PlainRegion) (p : Lists) (flags : ℕ)
    (told : Option Illegal) : Type 0 where
  pub trees : Bool
  pub asked : asks_for_trees flags ≡ Some trees
  pub layout : IsTakenLayout l regions
  pub taken : AreTaken l.cpus p
  pub tested : IsTestedIn trees (layout_from_c l regions) (contents_from_c p) told

-- why it isn't tested, if the flags and the state are valid
abbrev pub IsUntestedFrom : Untested → Type 0
IsUntestedFrom NoMemory = Unit {0}
IsUntestedFrom other = ⊥

-- and why it isn't: the first that is true
abbrev pub IsUntested : PlainLayout → List PlainRegion → Lists → ℕ → Untested → Type 0
IsUntested l regions p flags Flags = asks_for_trees flags ≡ None
IsUntested l regions p flags (State why) = IsSome (asks_for_trees flags) × IsUnmade l regions p why
IsUntested l regions p flags NoMemory = Unit {0}

abbrev pub refused_by_test : Untested → PlainRefused
refused_by_test (State why) = refused_by_made why
refused_by_test other = of_fault 0

-- the status if there is no test: -3 for flags, -8 and -9 for a layout and a state, -12 if memory
-- ran out
abbrev pub status_by_test : Untested → ℤ
status_by_test Flags = negsuc 2
status_by_test (State why) = status_by_made (negsuc 8) why
status_by_test NoMemory = negsuc 11

module _ (layout : PlainLayout) (regions : List PlainRegion) (state : Lists) (flags : ℕ) where
  -- the state is legal, and nothing is written
  pub record Agrees (old new : List ℕ) (count : ℕ) (refused : PlainRefused)
      (status : ℤ) : Type 0 where
    pub tested : IsTested layout regions state flags None
    pub status_is : status ≡ pos 0
    pub count_is : count ≡ 0
    pub refused_is : refused ≡ of_fault 0
    pub text : new ≡ old

  -- a fault is found, and written as text
  pub record Differs (old new : List ℕ) (count : ℕ) (refused : PlainRefused)
      (status : ℤ) : Type 0 where
    pub found : Illegal
    pub tested : IsTested layout regions state flags (Some found)
    pub status_is : status ≡ pos 1
    pub count_is : count ≡ length (text_of_illegal found)
    pub refused_is : refused ≡ of_fault 0
    pub text : take count new ≡ text_of_illegal found
    pub behind : drop count new ≡ drop count old

  -- a fault is found, and its text has no room
  pub record HasNoRoom (old new : List ℕ) (count : ℕ) (refused : PlainRefused)
      (status : ℤ) : Type 0 where
    pub found : Illegal
    pub tested : IsTested layout regions state flags (Some found)
    pub status_is : status ≡ negsuc 1
    pub count_is : count ≡ length (text_of_illegal found)
    pub refused_is : refused ≡ of_fault 0
    pub less : length old < count
    pub text : new ≡ old

  -- there is no test, and nothing is written
  pub record IsRefused (old new : List ℕ) (count : ℕ) (refused : PlainRefused)
      (status : ℤ) : Type 0 where
    pub why : Untested
    pub untested : IsUntested layout regions state flags why
    pub status_is : status ≡ status_by_test why
    pub count_is : count ≡ 0
    pub refused_is : refused ≡ refused_by_test why
    pub text : new ≡ old

  -- one of these
  abbrev pub IsStateTested : List ℕ → List ℕ → ℕ → PlainRefused → ℤ → Type 0
  IsStateTested old new count refused status =
      Agrees old new count refused status
      ⊎ (Differs old new count refused status
      ⊎ (HasNoRoom old new count refused status ⊎ IsRefused old new count refused status))
