-- Which plain lists make a state, and why others don't.
use Rattle.std.specs.Prelude.{◌≡◌, ◌<◌, ◌≤◌, ◌^◌, ℕ, Bool, not, All, List, Option, Some, None, position}
use Rattle.reference_model.specs.model.State.{Cpu}
use Rattle.ghost_trees.specs.Apart.{AreFramesApart, AreRunsApart, AreTablesApart}
use Rattle.ghost_trees.specs.Small.{AreSmall}
use Rattle.ghost_spec.specs.declared.filled.GhostFault.{GhostFault}
use Rattle.ghost_spec.specs.declared.filled.GhostFault.TheVariants.{TooLarge, Overlap, TableTwice, FrameTwice}
use Rattle.ghost_spec.specs.Filled.{AreLowRows, AreRowsApart, IsFirstRowFault}
use Rattle.ghost_spec.specs.Kept.{HasLowLoad, HasLowTicket, IsSmallRange}
use Rattle.c_states.specs.declared.state.PlainFault.{PlainFault}
use Rattle.c_states.specs.declared.state.PlainFault.TheVariants.{Unknown, Rows as RowsFault, Twice, Lists as ListsFault, NoMemory}
use Rattle.c_states.specs.declared.state.PlainList.{PlainList}
use Rattle.c_states.specs.declared.state.PlainList.TheVariants as lists
use Rattle.c_states.specs.Clashes.{do_frames_clash, do_runs_clash, do_tables_clash, have_one_cpu, have_one_guest, have_one_slot, HasNoClash, IsFirstClash}
use Rattle.c_states.specs.Known.{is_run, is_table, is_frame, is_slot, is_load, is_guest, is_cpu, is_row}
use Rattle.c_states.specs.Lists.{cpu_listed, cpu_from_c, frames_from_c, rows_from_c, runs_from_c, tables_from_c}
use Rattle.c_states.specs.States.{Lists}

-- the first member of a list with an unknown number, and if there is none that of the others
abbrev pub unknown_in : {X : Type 0}
    → (X → Bool)
    → List X
    → PlainList
    → Option (PlainList × ℕ)
    → Option (PlainList × ℕ)
unknown_in known members list others =
    elim (position (λ x. not (known x)) members) [ None ↦ others | Some at ↦ Some (list, at) ]

-- from the loads on, with this number of CPUs
abbrev pub first_unknown_later : ℕ → Lists → Option (PlainList × ℕ)
first_unknown_later cpus p =
    unknown_in is_load p.loads lists.Loads
    (unknown_in is_guest p.guests lists.Guests
    (unknown_in (is_cpu cpus) p.cpus lists.Cpus (unknown_in is_row p.rows lists.Rows None)))

-- of all lists
abbrev pub first_unknown_of : ℕ → Lists → Option (PlainList × ℕ)
first_unknown_of cpus p =
    unknown_in is_run p.runs lists.Runs
    (unknown_in is_table p.tables lists.Tables
    (unknown_in is_frame p.frames lists.Frames
    (unknown_in is_slot p.slots lists.Slots (first_unknown_later cpus p))))

-- the rows' frames and lent pages are small, and no two runs of them share a frame
abbrev pub AreTakenRows : Lists → Type 0
AreTakenRows p = AreLowRows (rows_from_c p.rows) × AreRowsApart (rows_from_c p.rows)

-- no two slots, guests or CPUs have one number
pub record AreOnce (p : Lists) : Type 0 where
  pub slots : HasNoClash have_one_slot p.slots
  pub guests : HasNoClash have_one_guest p.guests
  pub cpus : HasNoClash have_one_cpu p.cpus

-- the member of a list is the first that has the number of an earlier one, and in the lists before
-- none has
abbrev pub IsTwice : Lists → PlainList → ℕ → Type 0
IsTwice p lists.Slots at = IsFirstClash have_one_slot p.slots at
IsTwice p lists.Guests at =
    HasNoClash have_one_slot p.slots × IsFirstClash have_one_guest p.guests at
IsTwice p lists.Cpus at =
    HasNoClash have_one_slot p.slots
    × HasNoClash have_one_guest p.guests
    × IsFirstClash have_one_cpu p.cpus at
IsTwice p other at = ⊥

-- all members have known numbers, the rows are well, and nothing is there twice
pub record AreRead (cpus : ℕ) (p : Lists) : Type 0 where
  pub known : first_unknown_of cpus p ≡ None
  pub rows : AreTakenRows p
  pub once : AreOnce p

-- a CPU's hand is small, and its loaded vCPU and its ticket are of one of the 64 slots
pub record IsLowCpu (k : Cpu) : Type 0 where
  pub hand : IsSmallRange k.hand
  pub loaded : HasLowLoad k.loaded
  pub ticket : HasLowTicket k.ticket

-- so is each of `cpus` CPUs, and the pages and frames of all trees and pools are small
pub record HaveLowNumbers (cpus : ℕ) (p : Lists) : Type 0 where
  pub runs : (tree : ℕ) → tree < 66 → AreSmall (runs_from_c p.runs tree)
  pub tables : (tree : ℕ) → tree < 66 → All (λ t. t.frame ≤ 2 ^ 62) (tables_from_c p.tables tree)
  pub frames : (pool : ℕ)
      → 1 ≤ pool
      → pool < 66
      → All (λ f. f ≤ 2 ^ 62) (frames_from_c p.frames pool)
  pub cpus_are : (c : ℕ) → c < cpus → IsLowCpu (cpu_from_c (cpu_listed p.cpus c))

-- no tree has two runs that share a page
abbrev pub HaveRunsApart : Lists → Type 0
HaveRunsApart p = (tree : ℕ) → tree < 66 → AreRunsApart (runs_from_c p.runs tree)

-- no tree has two tables at one block, or with one frame
abbrev pub HaveTablesApart : Lists → Type 0
HaveTablesApart p = (tree : ℕ) → tree < 66 → AreTablesApart (tables_from_c p.tables tree)

-- no pool has a frame twice
abbrev pub HaveFramesApart : Lists → Type 0
HaveFramesApart p = (pool : ℕ) → 1 ≤ pool → pool < 66 → AreFramesApart (frames_from_c p.frames pool)

-- lists that make a state
pub record AreTaken (cpus : ℕ) (p : Lists) : Type 0 where
  pub read : AreRead cpus p
  pub numbers : HaveLowNumbers cpus p
  pub runs : HaveRunsApart p
  pub tables : HaveTablesApart p
  pub frames : HaveFramesApart p

-- of lists that are read, the first of these that doesn't hold
abbrev pub IsFirstOfLists : ℕ → Lists → GhostFault → Type 0
IsFirstOfLists cpus p TooLarge = ¬ HaveLowNumbers cpus p
IsFirstOfLists cpus p Overlap = HaveLowNumbers cpus p × ¬ HaveRunsApart p
IsFirstOfLists cpus p TableTwice = HaveLowNumbers cpus p × HaveRunsApart p × ¬ HaveTablesApart p
IsFirstOfLists cpus p FrameTwice =
    HaveLowNumbers cpus p × HaveRunsApart p × HaveTablesApart p × ¬ HaveFramesApart p
IsFirstOfLists cpus p other = ⊥

-- the named member is the first of its list that can't be there with an earlier one. Of numbers
-- that are too large none is named
abbrev pub IsCulprit : Lists → GhostFault → Option (PlainList × ℕ) → Type 0
IsCulprit p TooLarge None = Unit {0}
IsCulprit p Overlap (Some told) = (told.0 ≡ lists.Runs) × IsFirstClash do_runs_clash p.runs told.1
IsCulprit p TableTwice (Some told) =
    (told.0 ≡ lists.Tables) × IsFirstClash do_tables_clash p.tables told.1
IsCulprit p FrameTwice (Some told) =
    (told.0 ≡ lists.Frames) × IsFirstClash do_frames_clash p.frames told.1
IsCulprit p other culprit = ⊥

-- a fault of lists that are read, with its place
abbrev pub IsListsFault : ℕ → Lists → PlainFault → Type 0
IsListsFault cpus p (ListsFault fault culprit) =
    IsFirstOfLists cpus p fault × IsCulprit p fault culprit
IsListsFault cpus p NoMemory = Unit {0}
IsListsFault cpus p other = ⊥

-- the fault is true of the lists, and all that is tested before it is well
abbrev pub IsPlainFault : ℕ → Lists → PlainFault → Type 0
IsPlainFault cpus p (Unknown list at) = first_unknown_of cpus p ≡ Some (list, at)
IsPlainFault cpus p (RowsFault fault) =
    (first_unknown_of cpus p ≡ None) × IsFirstRowFault fault (rows_from_c p.rows)
IsPlainFault cpus p (Twice list at) =
    (first_unknown_of cpus p ≡ None) × AreTakenRows p × IsTwice p list at
IsPlainFault cpus p (ListsFault fault culprit) =
    AreRead cpus p × IsFirstOfLists cpus p fault × IsCulprit p fault culprit
IsPlainFault cpus p NoMemory = Unit {0}
