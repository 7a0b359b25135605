-- Without tables and free frames: rules, changes and parts are the same.
use Rattle.std.proofs.Common.{◌≡◌, ℕ, refl, ap, sym}
use Rattle.std.specs.Prelude.{Bool, true, false, ◌==◌, Option, Some, None, if◌then◌else◌}
use mathlib.Core.Path.{fun_ext}
use Rattle.call_table.specs.declared.step.Step.{Step}
use Rattle.call_table.specs.declared.step.Step.TheVariants.{Topup, ReclaimPool, FinishGuest}
use Rattle.page_state.proofs.Common.{same2}
use Rattle.page_state.specs.Layouts.{Layout}
use Rattle.page_state.specs.Tables.{edited}
use Rattle.reference_model.specs.declared.changes.Changes.{Changes}
use Rattle.reference_model.specs.declared.changes.GuestChange.{GuestChange}
use Rattle.reference_model.specs.declared.changes.GuestChange.TheVariants.{Keep as KeepGuest, Install, Gain, LoseLowest, Die, Empty}
use Rattle.reference_model.specs.model.Changes.{guest_by}
use Rattle.reference_model.specs.model.Parts.{Names, uses_shared}
use Rattle.reference_model.specs.model.Rules.{rule}
use Rattle.reference_model.specs.model.State.{Shared, Guest, Contents, dying, no_shared}
use Rattle.reference_model.specs.model.Step.{rule_of, changed, shared_after, guest_after}
use Rattle.reference_model.specs.model.Used.{Used, used_of, put_back, guest_at, put_guest}
use Rattle.freedoms.specs.Ample.{asks_pool}
use Rattle.freedoms.specs.OwnTables.{bare_shared, bare_guest, bare_used, without_tables}

-- a rule that asks no pool reads no table and no free frame
pub rule-bare : (l : Layout) (cpu : ℕ) (slot : Option ℕ) (step : Step) (x : Used)
    → asks_pool step ≡ false
    → rule_of l cpu slot step (bare_used x) ≡ rule_of l cpu slot step x
unfolding rule
rule-bare l cpu slot (Topup vm) x h = cc
rule-bare l cpu slot (ReclaimPool vm) x h = cc
rule-bare l cpu slot FinishGuest x h = cc
rule-bare l cpu slot step x h = refl

part-bare : (depth : ℕ) (p : GuestChange) (g k : Guest)
    → bare_guest g ≡ bare_guest k
    → bare_guest (guest_by depth p g) ≡ bare_guest (guest_by depth p k)
part-bare depth KeepGuest g k e = e
part-bare depth (Install kind generation hand) g k e = refl
part-bare depth (Gain range) g k e = e
part-bare depth LoseLowest g k e = e
part-bare depth Die g k e = ap (λ (j : Guest). record j { phase = dying }) e
part-bare depth Empty g k e = refl

-- what a change leaves has the same maps, rows and phases
pub changed-bare : (depth : ℕ) (h : Changes) (x : Used)
    → bare_used (changed depth h x) ≡ bare_used (changed depth h (bare_used x))
unfolding changed shared_after guest_after edited
changed-bare depth h x =
    ap (λ (g : Guest). record (bare_used (changed depth h x)) { guest = g }) (part-bare depth h.part _ _ refl)

pub if-over : {A B : Type 0} (g : A → B) (b : Bool) (x y : A) → g (if b then x else y) ≡ (if b then g x else g y)
if-over g true x y = refl
if-over g false x y = refl

pub put-over : (slot : Option ℕ) (s : ℕ → Guest) (g : Guest) (v : ℕ)
    → bare_guest (put_guest s slot g v) ≡ put_guest (λ u. bare_guest (s u)) slot (bare_guest g) v
put-over None s g v = refl
put-over (Some u) s g v = if-over bare_guest (v == u) g (s v)

pub at-over : (slot : Option ℕ) (s : ℕ → Guest) → guest_at (λ v. bare_guest (s v)) slot ≡ bare_guest (guest_at s slot)
at-over None s = refl
at-over (Some v) s = refl

-- what is put back
pub put-bare : (n : Names) (slot : Option ℕ) (cpu : ℕ) (s : Contents) (y : Used)
    → without_tables (put_back n slot cpu s y) ≡ put_back n slot cpu (without_tables s) (bare_used y)
unfolding put_back
put-bare n slot cpu s y =
    same2
    (λ (a : Shared) (g : ℕ → Guest). record (put_back n slot cpu (without_tables s) (bare_used y))
    { shared = a; guest = g })
    (if-over bare_shared (uses_shared n slot) y.shared s.shared) (fun_ext (put-over slot s.guest y.guest))

-- what is used
pub used-bare : (n : Names) (slot : Option ℕ) (cpu : ℕ) (s : Contents)
    → used_of n slot cpu (without_tables s) ≡ bare_used (used_of n slot cpu s)
unfolding used_of
used-bare n slot cpu s =
    same2 (λ (a : Shared) (g : Guest). record (used_of n slot cpu (without_tables s)) { shared = a; guest = g })
    (sym (if-over bare_shared (uses_shared n slot) s.shared no_shared)) (at-over slot s.guest)
