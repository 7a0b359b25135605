-- The comparison of an audit, and the first difference in its order: the maps, the owner rows, and
-- then the tables of the host, of the hypervisor and of the guests by slot. If all agrees, the
-- state is legal, or the finding is why it isn't.
use Rattle.std.specs.Prelude.{◌≡◌, ℕ, ◌<◌, true, List, Option, get_or, map}
use Rattle.page_state.specs.Layouts.{Layout}
use Rattle.page_state.specs.Trees.{Block}
use Rattle.reference_model.specs.help.Conditions.{Legal}
use Rattle.reference_model.specs.model.State.{Contents, no_guest}
use Rattle.ghost_judge.specs.Audits.{AuditAgrees, IsFirstDifference}
use Rattle.ghost_judge.specs.declared.disagreement.TreeOf.{TreeOf}
use Rattle.ghost_judge.specs.declared.disagreement.TreeOf.TheVariants.{Host, Hyp, Guest}
use Rattle.ghost_spec.specs.declared.parts.GhostGuest.{GhostGuest}
use Rattle.ghost_spec.specs.States.{guest_in}
use Rattle.ghost_legal.specs.Told.{IsWhyIllegal}
use Rattle.ghost_sound.specs.Sound.{IsSound, IsUnsound}
use Rattle.table_audit.specs.declared.finding.Finding.{Finding}
use Rattle.table_audit.specs.declared.finding.Finding.TheVariants.{Differs, Table as TableDiffers, Unsound, Illegal}
use Rattle.table_audit.specs.Tables.{IsTableReported}

-- all tables are the same
pub record TablesAgree (kept walked : Contents) : Type 0 where
  pub host : kept.shared.host.table ≡ walked.shared.host.table
  pub hyp : kept.shared.hyp.table ≡ walked.shared.hyp.table
  pub guests : (v : ℕ) → (kept.guest v).tree.table ≡ (walked.guest v).tree.table

-- all agrees
pub record AgreesWith (kept walked : Contents) : Type 0 where
  pub audit : AuditAgrees kept walked
  pub tables : TablesAgree kept walked

-- all agrees, and the state is legal
pub record IsWell (l : Layout) (kept walked : Contents) : Type 0 where
  pub agrees : AgreesWith kept walked
  pub legal : Legal l kept

-- a table of this tree differs, and those of the trees before it don't
abbrev pub IsFirstTableOf : Contents → Contents → TreeOf → ℕ × ℕ → Option ℕ → Option ℕ → Type 0
IsFirstTableOf kept walked Host block x y =
    IsTableReported kept.shared.host.table walked.shared.host.table block x y
IsFirstTableOf kept walked Hyp block x y =
    (kept.shared.host.table ≡ walked.shared.host.table)
    × IsTableReported kept.shared.hyp.table walked.shared.hyp.table block x y
IsFirstTableOf kept walked (Guest v) block x y =
    (kept.shared.host.table ≡ walked.shared.host.table)
    × (kept.shared.hyp.table ≡ walked.shared.hyp.table)
    × ((w : ℕ) → w < v → (kept.guest w).tree.table ≡ (walked.guest w).tree.table)
    × IsTableReported (kept.guest v).tree.table (walked.guest v).tree.table block x y

abbrev pub IsFirstTable : Contents → Contents → Finding → Type 0
IsFirstTable kept walked (Differs d) = ⊥
IsFirstTable kept walked (Unsound why) = ⊥
IsFirstTable kept walked (Illegal why) = ⊥
IsFirstTable kept walked (TableDiffers tree height index x y) =
    IsFirstTableOf kept walked tree (height, index) x y

-- the tables of the guest at a place of a list
abbrev pub guest_table : List GhostGuest → ℕ → Block → Option ℕ
guest_table guests v = (get_or (map guest_in guests) v no_guest).tree.table

-- a table of a guest differs, and those of the guests before it don't
pub record IsGuestTableOf (kept walked : List GhostGuest) (v : ℕ) (block : Block)
    (x y : Option ℕ) : Type 0 where
  pub before : (w : ℕ) → w < v → guest_table kept w ≡ guest_table walked w
  pub told : IsTableReported (guest_table kept v) (guest_table walked v) block x y

abbrev pub IsGuestTable : List GhostGuest → List GhostGuest → Finding → Type 0
IsGuestTable kept walked (TableDiffers (Guest v) height index x y) =
    IsGuestTableOf kept walked v (height, index) x y
IsGuestTable kept walked other = ⊥

-- why a state isn't legal: its maps aren't sound, or, if they are, the reason reported for the
-- state
abbrev pub IsUnlawful : Layout → Contents → Finding → Type 0
IsUnlawful l s (Unsound why) = (Legal l s → ⊥) × IsUnsound s why
IsUnlawful l s (Illegal why) = (Legal l s → ⊥) × IsSound s × IsWhyIllegal true l s why
IsUnlawful l s other = ⊥

-- the first difference: all that comes before it agrees; and if there is no difference, why the
-- state isn't legal
abbrev pub IsFirstFinding : Layout → Contents → Contents → Finding → Type 0
IsFirstFinding l kept walked (Differs d) = IsFirstDifference kept walked d
IsFirstFinding l kept walked (TableDiffers tree height index x y) =
    AuditAgrees kept walked × IsFirstTableOf kept walked tree (height, index) x y
IsFirstFinding l kept walked other = AgreesWith kept walked × IsUnlawful l kept other
