-- The runs of guests.
use Rattle.std.specs.Prelude.{◌≡◌, ℕ, ◌+◌, ◌<◌, ◌≤◌, List, [], ◌∷◌, length, true, is_some}
use Rattle.descriptor.specs.declared.Kind.TheVariants.{Normal}
use Rattle.descriptor.specs.declared.Prot.{Prot}
use Rattle.descriptor.specs.declared.State.{State}
use Rattle.page_state.specs.declared.entry.Entry.{Entry}
use Rattle.page_state.specs.declared.entry.Entry.TheVariants.{Unmapped}
use Rattle.page_state.specs.EntryTests.{leaf}
use Rattle.page_state.specs.declared.entry.Run.{Run}
use Rattle.page_state.specs.declared.entry.Target.{Target}
use Rattle.page_state.specs.declared.entry.Target.TheVariants.{Leaf}
use Rattle.page_state.specs.Runs.{run_end, IsCoarsest}
use Rattle.call_table.specs.declared.step.VmKind.TheVariants.{Plain}
use Rattle.ghost_trees.specs.Trees.{table_of}
use Rattle.ghost_spec.specs.declared.parts.GhostGuest.{GhostGuest}
use Rattle.ghost_spec.specs.declared.parts.GhostPhase.{GhostPhase}
use Rattle.ghost_spec.specs.declared.parts.GhostPhase.TheVariants.{Empty}

-- a target is a leaf of memory
abbrev pub IsNormal : Target → Type 0
IsNormal (Leaf frame prot kind state) = kind ≡ Normal
IsNormal other = ⊥

-- the target of each run is a leaf of memory
abbrev pub AreNormal : List Run → Type 0
AreNormal [] = Unit {0}
AreNormal (r ∷ rs) = IsNormal r.target × AreNormal rs

-- the runs of each guest are the coarsest, and map leaves of memory
abbrev pub HaveGoodRuns : List GhostGuest → Type 0
HaveGoodRuns [] = Unit {0}
HaveGoodRuns (g ∷ gs) =
    (IsCoarsest g.tree.runs.items × AreNormal g.tree.runs.items) × HaveGoodRuns gs

-- a run's pages are leaves of memory, below a page
abbrev pub IsGoodRun : ℕ → Run → Type 0
IsGoodRun pages r = IsNormal r.target × (run_end r ≤ pages)

-- a guest has nothing
pub record IsBlank (g : GhostGuest) : Type 0 where
  pub generation : g.generation ≡ 0
  pub kind : g.kind ≡ Plain
  pub runs : length g.tree.runs.items ≡ 0
  pub tables : length g.tree.tables.items ≡ 0
  pub free : length g.free.items ≡ 0

-- an Empty guest has nothing, and any other a root
abbrev pub IsWholeIn : ℕ → GhostGuest → GhostPhase → Type 0
IsWholeIn depth g Empty = IsBlank g
IsWholeIn depth g other = is_some (table_of g.tree.tables.items (depth + 1, 0)) ≡ true

abbrev pub IsWhole : ℕ → GhostGuest → Type 0
IsWhole depth g = IsWholeIn depth g g.phase

-- a page of a run isn't a leaf of memory, or isn't below a page
pub record IsBadPage (pages : ℕ) (r : Run) (p : ℕ) : Type 0 where
  pub from : r.pages.first.0 ≤ p
  pub to : p < run_end r
  pub bad : IsNormal r.target → pages ≤ p

-- an entry of a page is mapped, and no leaf of memory, or the page isn't below another
pub record IsBadEntry (pages p : ℕ) (e : Entry) : Type 0 where
  pub mapped : e ≡ Unmapped → ⊥
  pub bad : (frame : ℕ) (prot : Prot) (state : State) → e ≡ leaf prot frame state → pages ≤ p
