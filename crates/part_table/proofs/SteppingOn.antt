-- What a step on parts by number asks and gives, by what is lent to it.
use Rattle.std.proofs.Common.{◌≡◌, ◌≢◌, ◌∙◌, ℕ, suc, ◌+◌, ◌<◌, ◌==◌, false, cond, eqb, unwrap_or, IsSome, Some, None, eq-eqb, ne_eqb, List, [], ◌∷◌, length, Option, refl, sym, ap, subst, arith}
use Rattle.std.proofs.Math.Logic.{∥∥₁_elim, ∥∥₁_map}
use Rattle.std.proofs.Props.{props}
use Rattle.std.proofs.lemmas.Bool.Decides.{nat_tests}
use Rattle.std.specs.Coded.{le_prop}
use Rattle.call_table.specs.declared.reply.Call.{Call}
use Rattle.call_table.specs.declared.step.Step.{Step}
use Rattle.page_state.specs.Layouts.{Layout}
use Rattle.reference_model.specs.model.Rules.{guest_slot, names}
use Rattle.reference_model.specs.model.Reached.{IsReached}
use Rattle.reference_model.specs.model.State.{Reference}
use Rattle.part_types.specs.declared.parts.VmPart.{VmPart}
use Rattle.part_types.specs.declared.parts.SharedPart.{SharedPart}
use Rattle.part_types.specs.declared.parts.GuestPart.{GuestPart}
use Rattle.part_types.specs.declared.parts.CpuState.{CpuState}
use Rattle.part_types.specs.Lent.{Lent, Suits, call_in, lent_alone, lent_both, lent_guest, lent_shared, lent_vms, logs_in, slot_in, used_in}
use Rattle.part_types.specs.View.{cpu_of}
use Rattle.hypercalls.specs.declared.used_parts.UsedParts.TheVariants.{Nothing, Vms, Shared, Guest, Both}
use Rattle.hypercalls.specs.Steps.{IsStepOn, any_full, reply_in}
use Rattle.hypercalls.specs.Uses.{uses_of}
use Rattle.hypercalls.proofs.Stepping.{Fits, fits_of}
use Rattle.hypercalls.proofs.Using.{nothing, vms, shared, guest, both}
use Rattle.part_table.specs.declared.slot.Slot.{Slot}
use Rattle.part_table.specs.declared.slot.Slot.TheVariants.{Vm as VmSlot, Shared as SharedSlot, Guest as GuestSlot}
use Rattle.part_table.proofs.Left.{part_left}
use Rattle.part_table.specs.Does.{Does, IsCalled, IsLeft, none_at, only_at, both_at}
use Rattle.part_table.specs.Parts.{IsPart}
use Rattle.part_table.proofs.Stepping.{lent_at, reached, suits, does, nat_prop}
use Rattle.part_table.proofs.SteppingByNumber.{left_as, does_as, vms_number, shared_number, guest_number, none_is, vms_only, shared_only, guest_only, both_is}

pub no_items : {P : Type 0} (xs : List P) → length xs ≡ 0 → xs ≡ []
no_items [] e = refl
no_items (x ∷ xs) e = absurd (omega (arith, e))

pub not_full : (n : ℕ) → n ≢ 0 → (n == 0) ≡ false
not_full n h = grind (arith, nat_tests)

-- the number of a part that is told by number, by its kind
module _ {A : Type 0} (l : Layout) (id : ℕ) (own : CpuState) (k : ℕ) (x : Slot A) where
  part_here : (h : IsLeft l id own (only_at k x)) → IsPart l h.history.end k x
  part_here h = part_left h k x (ap (λ b. cond b (Some x) None) (eq-eqb k k refl))

  vms_here : (p : VmPart) → x ≡ VmSlot p → ∥ IsLeft l id own (only_at k x) ∥₁ → k ≡ 0
  vms_here p e left = ∥∥₁_elim left (nat_prop k 0) (λ h. vms_number l h.history.end k x p e (part_here h))

  shared_here : (p : SharedPart A) → x ≡ SharedSlot p → ∥ IsLeft l id own (only_at k x) ∥₁ → k ≡ 1
  shared_here p e left = ∥∥₁_elim left (nat_prop k 1) (λ h. shared_number l h.history.end k x p e (part_here h))

  pub guest_past : (p : GuestPart A) → x ≡ GuestSlot p → ∥ IsLeft l id own (only_at k x) ∥₁ → 1 < k
  guest_past p e left = ∥∥₁_elim left le_prop (λ h. guest_number l h.history.end k x p e (part_here h))

  -- the same parts, told otherwise
  left_for : (j : ℕ) (y : Slot A)
      → k ≡ j
      → x ≡ y
      → ∥ IsLeft l id own (only_at k x) ∥₁
      → ∥ IsLeft l id own (only_at j y) ∥₁
  left_for j y e is left =
      subst (λ (z : Slot A). ∥ IsLeft l id own (only_at j z) ∥₁) is
      (subst (λ n. ∥ IsLeft l id own (only_at n x) ∥₁) e left)

  does_for : (j : ℕ) (y : Slot A)
      → k ≡ j
      → x ≡ y
      → (c : Call) (z : Slot A) (owned : CpuState)
      → Does l c (only_at k x) own (only_at k z) owned
      → Does l c (only_at j y) own (only_at j z) owned
  does_for j y e is c z owned d =
      subst (λ (w : Slot A). Does l c (only_at j w) own (only_at j z) owned) is
      (subst (λ n. Does l c (only_at n x) own (only_at n z) owned) e d)

-- a part alone that is lent by its kind: its number, what is left with it, and what a call did to it
module _ {A : Type 0} {l : Layout} (id : ℕ) (own : CpuState) (k : ℕ) {x : Slot A}
    (left : ∥ IsLeft l id own (only_at k x) ∥₁) where
  module _ {p : VmPart} (is : x ≡ VmSlot p) where
    pub vms_at : k ≡ 0
    vms_at = vms_here l id own k x p is left

    pub vms_left : ∥ IsLeft {A = A} l id own (only_at 0 (VmSlot p)) ∥₁
    vms_left = left_for l id own k x 0 (VmSlot p) vms_at is left

    pub vms_did : {c : Call} (z : Slot A) {owned : CpuState}
        → Does l c (only_at 0 (VmSlot p)) own (only_at 0 z) owned
        → Does l c (only_at k x) own (only_at k z) owned
    vms_did z d = does_for l id own 0 (VmSlot p) k x (sym vms_at) (sym is) _ z _ d

  module _ {p : SharedPart A} (is : x ≡ SharedSlot p) where
    pub shared_at : k ≡ 1
    shared_at = shared_here l id own k x p is left

    pub shared_left : ∥ IsLeft l id own (only_at 1 (SharedSlot p)) ∥₁
    shared_left = left_for l id own k x 1 (SharedSlot p) shared_at is left

    pub shared_did : {c : Call} (z : Slot A) {owned : CpuState}
        → Does l c (only_at 1 (SharedSlot p)) own (only_at 1 z) owned
        → Does l c (only_at k x) own (only_at k z) owned
    shared_did z d = does_for l id own 1 (SharedSlot p) k x (sym shared_at) (sym is) _ z _ d

no_proof : IsProp ⊥
no_proof = hlevel props

-- the Shared part and a guest are of their kinds
module _ {A : Type 0} where
  shared_kind : (l : Layout) (s : Reference) (x : Slot A) → IsPart l s 1 x → (p : SharedPart A) × (x ≡ SharedSlot p)
  shared_kind l s (VmSlot p) h = absurd h
  shared_kind l s (SharedSlot p) h = (p, refl)
  shared_kind l s (GuestSlot p) h = absurd h

  guest_kind : (l : Layout) (s : Reference) (v : ℕ) (x : Slot A)
      → IsPart l s (suc (suc v)) x
      → (p : GuestPart A) × (x ≡ GuestSlot p)
  guest_kind l s v (VmSlot p) h = absurd h
  guest_kind l s v (SharedSlot p) h = absurd h
  guest_kind l s v (GuestSlot p) h = (p, refl)

  module _ (l : Layout) (id : ℕ) (own : CpuState) (v : ℕ) (x y : Slot A)
      (left : ∥ IsLeft l id own (both_at (v + 2) y 1 x) ∥₁) where
    pub is_shared : ((p : SharedPart A) → x ≡ SharedSlot p → ⊥) → ⊥
    is_shared never = ∥∥₁_elim left no_proof (λ h.
        let t =
        shared_kind l h.history.end x
        (part_left h 1 x (ap (λ b. cond b (Some y) (Some x)) (ne_eqb 1 (v + 2) (λ e. omega (arith, e))))) in
        never t.0 t.1)

    pub is_guest : ((p : GuestPart A) → y ≡ GuestSlot p → ⊥) → ⊥
    is_guest never = ∥∥₁_elim left no_proof (λ h.
        let two : v + 2 ≡ suc (suc v) = omega arith in
        let part =
        part_left h (v + 2) y
        (ap (λ b. cond b (Some y) (cond (eqb (v + 2) 1) (Some x) None)) (eq-eqb (v + 2) (v + 2) refl)) in
        let t = guest_kind l h.history.end v y (subst (λ k. IsPart l h.history.end k y) two part) in
        never t.0 t.1)

-- `x` is what is lent of the parts that `f` tells by number
pub record LentAs {A : Type 0} (l : Layout) (step : Step) (x : Lent A) (f : ℕ → Option (Slot A)) : Type 0 where
  pub fits : Fits (names step) (slot_in x step) x
  pub told : (j : ℕ) → lent_at (slot_in x step) x j ≡ f j
  pub left : ∥ IsLeft l x.cpu.id x.cpu f ∥₁

pub some_made : (o : Option Call) {c : Call} → o ≡ Some c → IsSome o
some_made None e = absurd cc
some_made (Some d) e = refl

some_call : (c d : Call) → ◌≡◌ {A = Option Call} (Some c) (Some d) → c ≡ d
some_call c d e = ap (λ o. unwrap_or o c) e

module _ {A : Type 0} {l : Layout} {step : Step} {x : Lent A} {f : ℕ → Option (Slot A)} (way : LentAs l step x f) where
  left_on : ∥ IsLeft l x.cpu.id x.cpu (lent_at (slot_in x step) x) ∥₁
  left_on = ∥∥₁_map way.left (left_as l x.cpu.id x.cpu (lent_at (slot_in x step) x) f way.told)

  pub asks_suits : Suits l x
  asks_suits = suits l step x way.fits left_on

  pub asks_reached : (o : Option ℕ) → slot_in x step ≡ o → ∥ IsReached l (names step) o x.cpu.id (used_in x) ∥₁
  asks_reached o e =
      subst (λ (i : Option ℕ). ∥ IsReached l (names step) i x.cpu.id (used_in x) ∥₁) e
      (reached l step x way.fits left_on)

  -- what comes back, where no log is full
  module _ (made : Option Call) (y : Lent A) (room : any_full (logs_in x) ≡ false)
      (did : IsStepOn l step x made y) where
    pub stores : made ≡ Some (call_in x step (reply_in made))
    stores = did.told ∙ rw room refl

    call_is : (c : Call) → made ≡ Some c → call_in x step (reply_in made) ≡ c
    call_is c e = some_call (call_in x step (reply_in made)) c (sym stores ∙ e)

    pub called : (c : Call) → made ≡ Some c → IsCalled x.cpu.id x.cpu step c
    called c e =
        subst (IsCalled x.cpu.id x.cpu step) (call_is c e)
        (record { by = refl; number = refl; asked = refl; slot = refl })

    pub gives : (c : Call)
        → made ≡ Some c
        → (h : ℕ → Option (Slot A))
        → Suits l y
        → ((j : ℕ) → lent_at (slot_in x step) y j ≡ h j)
        → Does l c f x.cpu h y.cpu
    gives c e h sized back =
        let d = does l step x way.fits made y room did sized in
        subst (λ (k : Call). Does l k f x.cpu h y.cpu) (call_is c e)
        (does_as l (call_in x step (reply_in made)) (lent_at (slot_in x step) x) f x.cpu
        (lent_at (slot_in x step) y) h y.cpu way.told back d)

-- how the parts are lent that a step uses, by their numbers
module _ {A : Type 0} (l : Layout) (step : Step) (k : CpuState) where
  pub none_as : uses_of (cpu_of k) step ≡ Nothing
      → ∥ IsLeft {A = A} l k.id k none_at ∥₁
      → LentAs {A = A} l step (lent_alone k) none_at
  none_as is left =
      record {
        fits = fits_of (lent_alone {A = A} k) step None (nothing (cpu_of k) step is) refl;
        told = none_is (guest_slot (cpu_of k) step) k;
        left = left;
      }

  pub vms_as : (p : VmPart)
      → uses_of (cpu_of k) step ≡ Vms
      → ∥ IsLeft {A = A} l k.id k (only_at 0 (VmSlot p)) ∥₁
      → LentAs {A = A} l step (lent_vms p k) (only_at 0 (VmSlot p))
  vms_as p is left =
      record {
        fits = fits_of (lent_vms {A = A} p k) step None (vms (cpu_of k) step is) refl;
        told = vms_only (guest_slot (cpu_of k) step) k p;
        left = left;
      }

  pub shared_as : (p : SharedPart A)
      → uses_of (cpu_of k) step ≡ Shared
      → ∥ IsLeft l k.id k (only_at 1 (SharedSlot p)) ∥₁
      → LentAs l step (lent_shared p k) (only_at 1 (SharedSlot p))
  shared_as p is left =
      record {
        fits = fits_of (lent_shared p k) step None (shared (cpu_of k) step is) refl;
        told = shared_only (guest_slot (cpu_of k) step) k p;
        left = left;
      }

  pub guest_as : (v n : ℕ) (p : GuestPart A)
      → n ≡ v + 2
      → uses_of (cpu_of k) step ≡ Guest v
      → ∥ IsLeft l k.id k (only_at n (GuestSlot p)) ∥₁
      → LentAs l step (lent_guest p k) (only_at n (GuestSlot p))
  guest_as v n p at is left = let kind = guest (cpu_of k) step v is in
      record {
        fits = fits_of (lent_guest p k) step (Some v) kind refl;
        told = guest_only (guest_slot (cpu_of k) step) k v n p kind.slot at;
        left = left;
      }

  pub both_as : (v : ℕ) (s : SharedPart A) (p : GuestPart A)
      → uses_of (cpu_of k) step ≡ Both v
      → ∥ IsLeft l k.id k (both_at (v + 2) (GuestSlot p) 1 (SharedSlot s)) ∥₁
      → LentAs l step (lent_both s p k) (both_at (v + 2) (GuestSlot p) 1 (SharedSlot s))
  both_as v s p is left = let kind = both (cpu_of k) step v is in
      record {
        fits = fits_of (lent_both s p k) step (Some v) kind refl;
        told = both_is (guest_slot (cpu_of k) step) k v s p kind.slot;
        left = left;
      }
