-- The passes that a shutdown is given, and what the world keeps of each.
use Rattle.std.specs.Prelude.{◌≡◌, ◌≢◌, ℕ, ◌<◌, List, length, Option, Some, None, slice_get}
use Rattle.page_state.specs.declared.layout.Layout.{Layout as TheLayout}
use Rattle.part_types.specs.declared.parts.CpuState.{CpuState}
use Rattle.part_table.specs.declared.slot.Slot.{Slot}
use Rattle.part_table.specs.Endings.{IsEndFor}
use Rattle.part_table.specs.Passes.{IsPassOf, Opened, Pass}
use Rattle.part_table.specs.Beginnings.{own_in}

-- F holds of each given pass
abbrev pub OfGiven : List Pass → (Pass → Type 0) → Type 0
OfGiven given F = (j : ℕ) (p : Pass) → slice_get given j ≡ Some p → F p

-- the given passes are all of this table
abbrev pub AreOf : Opened → List Pass → Type 0
AreOf t given = OfGiven given (IsPassOf t)

-- the pass of the CPU was handed out
abbrev pub IsOut : List (Option Pass) → ℕ → Type 0
IsOut passes c = slice_get passes c ≡ Some None

-- a pass of the CPU is given
pub record IsGiven (given : List Pass) (c : ℕ) : Type 0 where
  pub place : ℕ
  pub pass : Pass
  pub there : slice_get given place ≡ Some pass
  pub cpu : pass.knows.cpu ≡ c

-- no pass of the CPU is given
abbrev pub IsNotGiven : List Pass → ℕ → Type 0
IsNotGiven given c = (j : ℕ) (p : Pass) → slice_get given j ≡ Some p → p.knows.cpu ≢ c

-- a pass that was handed out isn't given
pub record LacksOne (passes : List (Option Pass)) (given : List Pass) : Type 0 where
  pub cpu : ℕ
  pub below : cpu < length passes
  pub out : IsOut passes cpu
  pub none : IsNotGiven given cpu

-- each pass that was handed out is given
abbrev pub HasAll : List (Option Pass) → List Pass → Type 0
HasAll passes given = (c : ℕ) → c < length passes → IsOut passes c → IsGiven given c

-- the pass of the CPU was never handed out
abbrev pub IsAtHome : List (Option Pass) → ℕ → Type 0
IsAtHome passes c = (p : Pass) × (slice_get passes c ≡ Some (Some p))

-- a CPU whose pass was never handed out is as the table began, with no call more
abbrev pub AreFreshAt : Opened → List (Option Pass) → List CpuState → Type 0
AreFreshAt t passes cpus = (c : ℕ) → IsAtHome passes c → slice_get cpus c ≡ Some (own_in t.begun c)

-- a pass of each CPU is given
abbrev pub AllGiven : TheLayout → List Pass → Type 0
AllGiven l given = (c : ℕ) → c < l.config.cpus → IsGiven given c

-- there are parts and CPUs' own states that are the end of one legal history, which is each given
-- pass's, and in which the other CPUs made no call
abbrev pub HasEndOf : Type 0 → Opened → List (Option Pass) → List Pass → Type 0
HasEndOf A t passes given =
    (found : List (Slot A))
    × (cpus : List CpuState)
    × IsEndFor t found cpus (OfGiven given)
    × AreFreshAt t passes cpus

-- the pass is at its CPU's place
abbrev pub IsBack : List (Option Pass) → Pass → Type 0
IsBack passes p = slice_get passes p.knows.cpu ≡ Some (Some p)
