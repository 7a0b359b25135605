-- The meaning of the owner row of a frame, in terms of maps and places; the kept rows of a run have
-- this meaning.
use Rattle.std.specs.Prelude.{◌≡◌, ◌≢◌, ℕ, zero, suc, ◌↔◌, true, List, Option, Some, None}
use Rattle.descriptor.specs.declared.State.TheVariants.{SharedBorrowed}
use Rattle.call_table.specs.declared.reply.Call.{Call}
use Rattle.page_state.specs.declared.row.Lent.{Lent}
use Rattle.page_state.specs.declared.row.Row.{Row}
use Rattle.page_state.specs.declared.row.Usage.{Usage}
use Rattle.page_state.specs.declared.row.Usage.TheVariants.{Plain, SharedPool, VmPool, InHand}
use Rattle.reference_model.specs.help.Conditions.{Legal, IsUsable}
use Rattle.page_state.specs.Layouts.{Layout, is_memory}
use Rattle.reference_model.specs.model.Boot.{CanBoot}
use Rattle.reference_model.specs.model.Run.{IsRun}
use Rattle.reference_model.specs.claims.Sound.{IsOne, Maps, Holds, IsHostsOwn, IsBorrowed, Place, shared_pool, vm_pool, table_of, hand, IsHeld}
use Rattle.reference_model.specs.model.State.{Contents, Reference}

-- a row's owner: the host, whose page of the frame is its own, or the one that has the frame's one
-- entry Owned or SharedOwned
pub record IsOwner (s : Contents) (f : ℕ) (owner : ℕ) : Type 0 where
  pub host : owner ≡ 0 → IsHostsOwn f (s.shared.host.map f)
  pub other : owner ≢ 0 → IsOne (λ page. Holds s owner page f)
  pub alone : (component page : ℕ) → Holds s component page f → component ≡ owner

-- a row's borrower maps the frame SharedBorrowed at the row's page, and there is no other such
-- entry
pub record IsBorrower (s : Contents) (f : ℕ) (lent : Lent) : Type 0 where
  pub maps : Maps s lent.owner.0 lent.page f SharedBorrowed
  pub alone : (component page : ℕ)
      → Maps s component page f SharedBorrowed
      → (component ≡ lent.owner.0) × (page ≡ lent.page)

-- the row names the borrower of the frame, or None if nobody borrows it
abbrev pub IsLentTo : Contents → ℕ → Option Lent → Type 0
IsLentTo s f (Some lent) = IsBorrower s f lent
IsLentTo s f None = ¬ IsBorrowed s f

-- the use of the frames that a place holds
abbrev pub use_of : Place → Usage
use_of shared_pool = SharedPool
use_of (vm_pool v) = VmPool v
use_of (table_of zero b) = SharedPool
use_of (table_of (suc zero) b) = SharedPool
use_of (table_of (suc (suc v)) b) = VmPool v
use_of (hand c) = InHand c

-- a row's use: Plain if and only if no place holds the frame; any other use means that a place of
-- that use holds it, and no place of another use does
pub record IsUse (s : Contents) (f : ℕ) (usage : Usage) : Type 0 where
  pub plain : usage ≡ Plain ↔ ((p : Place) → ¬ IsHeld s f p)
  pub held : usage ≢ Plain → (p : Place) × IsHeld s f p × (use_of p ≡ usage)
  pub alone : (p : Place) → IsHeld s f p → use_of p ≡ usage

-- the row is true of the frame
pub record IsRowOf (s : Contents) (f : ℕ) (row : Row) : Type 0 where
  pub owner : IsOwner s f row.owner.0
  pub lent : IsLentTo s f row.lent
  pub usage : IsUse s f row.usage

-- in a legal state the kept row of each memory frame is true
abbrev pub LegalRowsTrue : Type 0
LegalRowsTrue =
    (l : Layout) (s : Contents) (f : ℕ)
    → IsUsable l
    → Legal l s
    → is_memory l f ≡ true
    → IsRowOf s f (s.shared.row f)

-- the kept row of each memory frame is true in each state of a run
abbrev pub RunRowsTrue : Type 0
RunRowsTrue =
    (l : Layout) (cs : List Call) (t : Reference) (f : ℕ)
    → CanBoot l
    → IsRun l cs t
    → is_memory l f ≡ true
    → IsRowOf t.contents f (t.contents.shared.row f)

-- at most one row is true of a frame
abbrev pub RowOnce : Type 0
RowOnce = (s : Contents) (f : ℕ) (a b : Row) → IsRowOf s f a → IsRowOf s f b → b ≡ a
