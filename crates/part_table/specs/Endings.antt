-- The parts that a table begins with, and those left at the end.
use Rattle.std.specs.Prelude.{◌≡◌, ℕ, ◌<◌, Bool, false, List, [], ◌∷◌, ◌++◌, length, map, All, Option, Some, slice_get, slice_index_or}
use mathlib.Core.Option.{some}
use lib.ListN.{get_elem?}
use Rattle.page_state.specs.declared.layout.Layout.{Layout as TheLayout}
use Rattle.call_table.specs.declared.reply.Call.{Call}
use Rattle.page_state.specs.LayoutView.{layout_of}
use Rattle.reference_model.specs.model.Boot.{CanBoot, boot}
use Rattle.reference_model.specs.model.History.{IsStored, calls_by, calls_on}
use Rattle.reference_model.specs.model.Run.{IsRun}
use Rattle.reference_model.specs.model.State.{Reference}
use Rattle.part_types.specs.declared.parts.CpuState.{CpuState}
use Rattle.part_table.specs.declared.slot.Slot.{Slot}
use Rattle.part_table.specs.Parts.{parts, part_of, log_of, IsPart, IsOwn}
use Rattle.part_table.specs.Does.{AreLeft}
use Rattle.part_table.specs.Passes.{Opened, Pass}
use Rattle.part_table.specs.Beginnings.{GoesOn}
use Rattle.part_table.specs.Rule.{Ended}
use Rattle.part_table.specs.Known.{AreFronts, StartsWith, seen_at}

-- one legal history leaves all: the 66 parts, by number, and the CPUs' own states, by number
pub record IsEndOf {A : Type 0} (l : TheLayout) (found : List (Slot A))
    (cpus : List CpuState) : Type 0 where
  pub all : length found ≡ parts
  pub count : length cpus ≡ l.config.cpus
  pub left : AreLeft (layout_of l) (λ c. slice_get cpus c) (λ k. slice_get found k)

-- the same for parts that each lie in a slot
pub record IsEndIn {A : Type 0} (l : TheLayout) (slots : List (Option (Slot A)))
    (cpus : List CpuState) : Type 0 where
  pub found : List (Slot A)
  pub slots_are : slots ≡ map (λ x. Some x) found
  pub end : IsEndOf l found cpus

-- its CPU's place of the list has the state in which the pass ends, with all its calls
abbrev pub KeepsOwn : List CpuState → Pass → Type 0
KeepsOwn cpus p = slice_get cpus p.knows.cpu ≡ Some p.knows.own

-- each part's log begins with what the pass has seen of it
abbrev pub KeepsSeen : {A : Type 0} → List (Slot A) → Pass → Type 0
KeepsSeen {A = A} found p =
    (k : ℕ) (x : Slot A)
    → slice_get found k ≡ Some x
    → StartsWith (log_of x).calls (seen_at p.knows.seen k)

-- in the history each part's calls begin with each log of it that the pass took, and these calls
-- come before the one that the pass made next
abbrev pub KeepsTried : TheLayout → List Call → Pass → Type 0
KeepsTried l log p = AreFronts l.config.log p.knows.cpu log p.knows.tries

-- so for each pass of the list
abbrev pub ForEach : List (Option Pass) → (Pass → Type 0) → Type 0
ForEach passes F = (c : ℕ) (p : Pass) → slice_get passes c ≡ Some (Some p) → F p

-- The parts and the CPUs' own states are the end of one legal history, which continues the one that
-- the table began with, and agrees with each pass: its CPU ends in the pass's state, with all its
-- calls, and each part's log begins with the calls that the pass has seen of the part, and with
-- each log of it that the pass took, whose calls come before the pass's next one
pub record IsEndFor {A : Type 0} (t : Opened) (found : List (Slot A)) (cpus : List CpuState)
    (Each : (Pass → Type 0) → Type 0) : Type 0 where
  pub end : IsEndOf t.layout found cpus
  pub goes_on : GoesOn t.begun end.left.log
  pub own : Each (KeepsOwn cpus)
  pub seen : Each (KeepsSeen found)
  pub tried : Each (KeepsTried t.layout end.left.log)

-- there are such parts and states
abbrev pub HasEnd : Type 0 → Opened → List (Option Pass) → Type 0
HasEnd A t passes =
    (found : List (Slot A)) × (cpus : List CpuState) × IsEndFor t found cpus (ForEach passes)

-- what the root keeps of a pass that ends
abbrev pub ended_of : Pass → Ended
ended_of p = (p.knows.own, p.knows.seen, p.knows.tries)

-- the root has taken in a pass that ends, whose own state is this one
abbrev pub HasJoined : Pass → List Ended → List Ended → CpuState → Type 0
HasJoined p before after own = (after ≡ before ++ ended_of p ∷ []) × (own ≡ p.knows.own)

-- the states in which passes end
abbrev pub owns_of : List Ended → List CpuState
owns_of ended = map (λ e. e.0) ended

-- the first n passes have ended: the root has each one's final state, the calls that it has seen
-- and its tries, and the list has the states
abbrev pub HaveEnded : ℕ → List (Option Pass) → List Ended → List CpuState → Type 0
HaveEnded n passes ended cpus = (length ended ≡ n) × (length cpus ≡ n)
    × ((c : ℕ) (p : Pass)
    → c < n
    → slice_get passes c ≡ Some (Some p)
    → (get_elem? ended c ≡ some (ended_of p)) × (slice_get cpus c ≡ Some p.knows.own))

-- each slot has its part
abbrev pub AllHome : {A : Type 0} → List (Option (Slot A)) → Type 0
AllHome {A = A} xs = (k : ℕ) → k < parts → (x : Slot A) × (get_elem? xs k ≡ some (Some x))

-- the first n slots' parts, in order
abbrev pub Gives : {A : Type 0} → ℕ → List (Option (Slot A)) → List (Slot A) → Type 0
Gives {A = A} n xs found =
    (length found ≡ n)
    × ((k : ℕ) (x : Slot A) → k < n → get_elem? xs k ≡ some (Some x) → slice_get found k ≡ Some x)

-- the first n places are empty
abbrev pub emptied_to : ℕ → List Bool → Type 0
emptied_to n fs = (k : ℕ) → k < n → slice_index_or fs k false ≡ false
