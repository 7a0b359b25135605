-- Which parts a step uses, by number, and what they are as what is lent.
use Rattle.std.proofs.Common.{◌≡◌, ◌∙◌, ℕ, zero, suc, ◌+◌, ◌-◌, ◌<◌, ◌==◌, Bool, true, false, cond, eqb, List, [], ◌∷◌, length, Option, Some, None, refl, sym, ap, subst, arith, eq-eqb, ne_eqb}
use Rattle.std.proofs.lemmas.Bool.Decides.{nat_tests}
use Rattle.page_state.proofs.Cases.{by_eq}
use Rattle.call_table.specs.declared.reply.Call.{Call}
use Rattle.page_state.specs.Layouts.{Layout}
use Rattle.reference_model.specs.model.Parts.{is_slot}
use Rattle.reference_model.specs.model.State.{Reference}
use Rattle.part_types.specs.declared.parts.VmPart.{VmPart}
use Rattle.part_types.specs.declared.parts.SharedPart.{SharedPart}
use Rattle.part_types.specs.declared.parts.GuestPart.{GuestPart}
use Rattle.part_types.specs.declared.parts.CpuState.{CpuState}
use Rattle.part_types.specs.Lent.{lent_alone, lent_both, lent_guest, lent_shared, lent_vms}
use Rattle.hypercalls.specs.declared.used_parts.UsedParts.{UsedParts}
use Rattle.hypercalls.specs.declared.used_parts.UsedParts.TheVariants.{Nothing, Vms, Shared, Guest, Both}
use Rattle.part_table.specs.declared.slot.Slot.{Slot}
use Rattle.part_table.specs.declared.slot.Slot.TheVariants.{Vm as VmSlot, Shared as SharedSlot, Guest as GuestSlot}
use Rattle.part_table.specs.Does.{Does, IsLeft, none_at, only_at, both_at}
use Rattle.part_table.specs.Parts.{in_order, IsPart}
use Rattle.part_table.proofs.Stepping.{lent_at}

abbrev first_of : List ℕ → ℕ
first_of [] = 0
first_of (k ∷ ks) = k

abbrev second_of : List ℕ → ℕ
second_of [] = 0
second_of (k ∷ []) = 0
second_of (k ∷ (j ∷ ks)) = j

-- which parts these numbers are
pub none_used : (u : UsedParts) → in_order u ≡ [] → u ≡ Nothing
none_used Nothing e = refl
none_used Vms e = absurd (let n = ap length e in omega (arith, n))
none_used Shared e = absurd (let n = ap length e in omega (arith, n))
none_used (Guest v) e = absurd (let n = ap length e in omega (arith, n))
none_used (Both v) e = absurd (let n = ap length e in omega (arith, n))

pub vms_used : (u : UsedParts) → in_order u ≡ 0 ∷ [] → u ≡ Vms
vms_used Nothing e = absurd (let n = ap length e in omega (arith, n))
vms_used Vms e = refl
vms_used Shared e = absurd (let n = ap first_of e in omega (arith, n))
vms_used (Guest v) e = absurd (let n = ap first_of e in omega (arith, n))
vms_used (Both v) e = absurd (let n = ap length e in omega (arith, n))

pub shared_used : (u : UsedParts) → in_order u ≡ 1 ∷ [] → u ≡ Shared
shared_used Nothing e = absurd (let n = ap length e in omega (arith, n))
shared_used Vms e = absurd (let n = ap first_of e in omega (arith, n))
shared_used Shared e = refl
shared_used (Guest v) e = absurd (let n = ap first_of e in omega (arith, n))
shared_used (Both v) e = absurd (let n = ap length e in omega (arith, n))

pub guest_used : (u : UsedParts) (k : ℕ) → 1 < k → in_order u ≡ k ∷ [] → u ≡ Guest (k - 2)
guest_used Nothing k past e = absurd (let n = ap length e in omega (arith, n))
guest_used Vms k past e = absurd (let n = ap first_of e in omega (arith, n, past))
guest_used Shared k past e = absurd (let n = ap first_of e in omega (arith, n, past))
guest_used (Guest v) k past e = let n = ap first_of e in ap Guest (let i : v ≡ k - 2 = omega (arith, n) in i)
guest_used (Both v) k past e = absurd (let n = ap length e in omega (arith, n))

pub both_used : (u : UsedParts) (v : ℕ) → in_order u ≡ 1 ∷ (v + 2) ∷ [] → u ≡ Both v
both_used Nothing v e = absurd (let n = ap length e in omega (arith, n))
both_used Vms v e = absurd (let n = ap length e in omega (arith, n))
both_used Shared v e = absurd (let n = ap length e in omega (arith, n))
both_used (Guest w) v e = absurd (let n = ap length e in omega (arith, n))
both_used (Both w) v e = let n = ap second_of e in ap Both (let i : w ≡ v = omega (arith, n) in i)

same : {X : Type 0} (b : Bool) (n : X) → cond b n n ≡ n
same true n = refl
same false n = refl

is_same : (i j : ℕ) → i ≡ j → (i == j) ≡ true
is_same i j e = grind (arith, nat_tests)

is_not : (i j : ℕ) → (i ≡ j → ⊥) → (i == j) ≡ false
is_not i j h = grind (arith, nat_tests)

module _ {A : Type 0} where
  -- a part's number, by its kind
  pub vms_number : (l : Layout) (s : Reference) (k : ℕ) (x : Slot A) (p : VmPart)
      → x ≡ VmSlot p
      → IsPart l s k x
      → k ≡ 0
  vms_number l s zero x p e h = refl
  vms_number l s (suc zero) x p e h = absurd (subst (IsPart l s 1) e h)
  vms_number l s (suc (suc v)) x p e h = absurd (subst (IsPart l s (suc (suc v))) e h)

  pub shared_number : (l : Layout) (s : Reference) (k : ℕ) (x : Slot A) (p : SharedPart A)
      → x ≡ SharedSlot p
      → IsPart l s k x
      → k ≡ 1
  shared_number l s zero x p e h = absurd (subst (IsPart l s 0) e h)
  shared_number l s (suc zero) x p e h = refl
  shared_number l s (suc (suc v)) x p e h = absurd (subst (IsPart l s (suc (suc v))) e h)

  pub guest_number : (l : Layout) (s : Reference) (k : ℕ) (x : Slot A) (p : GuestPart A)
      → x ≡ GuestSlot p
      → IsPart l s k x
      → 1 < k
  guest_number l s zero x p e h = absurd (subst (IsPart l s 0) e h)
  guest_number l s (suc zero) x p e h = absurd (subst (IsPart l s 1) e h)
  guest_number l s (suc (suc v)) x p e h = omega arith

  module _ (slot : Option ℕ) (k : CpuState) where
    -- what is lent, by number
    pub none_is : (j : ℕ) → lent_at {A = A} slot (lent_alone k) j ≡ none_at j
    none_is zero = refl
    none_is (suc zero) = refl
    none_is (suc (suc u)) = same (is_slot slot u) None

    pub vms_only : (p : VmPart) (j : ℕ) → lent_at {A = A} slot (lent_vms p k) j ≡ only_at 0 (VmSlot p) j
    vms_only p zero = refl
    vms_only p (suc zero) = refl
    vms_only p (suc (suc u)) =
        same (is_slot slot u) None
        ∙ sym (ap (λ b. cond b (Some (VmSlot p)) None) (ne_eqb (suc (suc u)) 0 (λ e. omega (arith, e))))

    pub shared_only : (p : SharedPart A) (j : ℕ) → lent_at slot (lent_shared p k) j ≡ only_at 1 (SharedSlot p) j
    shared_only p zero = refl
    shared_only p (suc zero) = refl
    shared_only p (suc (suc u)) =
        same (is_slot slot u) None
        ∙ sym (ap (λ b. cond b (Some (SharedSlot p)) None) (ne_eqb (suc (suc u)) 1 (λ e. omega (arith, e))))

    pub guest_only : (v n : ℕ) (p : GuestPart A)
        → slot ≡ Some v
        → n ≡ v + 2
        → (j : ℕ)
        → lent_at slot (lent_guest p k) j ≡ only_at n (GuestSlot p) j
    guest_only v n p is at zero =
        sym (ap (λ b. cond b (Some (GuestSlot p)) None) (ne_eqb 0 n (λ e. omega (arith, e, at))))
    guest_only v n p is at (suc zero) =
        sym (ap (λ b. cond b (Some (GuestSlot p)) None) (ne_eqb 1 n (λ e. omega (arith, e, at))))
    guest_only v n p is at (suc (suc u)) = ap (λ o. cond (is_slot o u) (Some (GuestSlot p)) None) is ∙ by_eq u v
        (λ e. ap (λ b. cond b (Some (GuestSlot p)) None) (is_same u v e)
        ∙ sym (ap (λ b. cond b (Some (GuestSlot p)) None) (eq-eqb (suc (suc u)) n (omega (arith, e, at)))))
        (λ ne. ap (λ b. cond b (Some (GuestSlot p)) None) (is_not u v ne)
        ∙ sym
        (ap (λ b. cond b (Some (GuestSlot p)) None) (ne_eqb (suc (suc u)) n (λ e. ne (omega (arith, e, at))))))

    pub both_is : (v : ℕ) (s : SharedPart A) (p : GuestPart A)
        → slot ≡ Some v
        → (j : ℕ)
        → lent_at slot (lent_both s p k) j ≡ both_at (v + 2) (GuestSlot p) 1 (SharedSlot s) j
    both_is v s p is zero = sym (ap (λ b. cond b (Some (GuestSlot p)) None) (ne_eqb 0 (v + 2) (λ e. omega (arith, e))))
    both_is v s p is (suc zero) =
        sym (ap (λ b. cond b (Some (GuestSlot p)) (Some (SharedSlot s))) (ne_eqb 1 (v + 2) (λ e. omega (arith, e))))
    both_is v s p is (suc (suc u)) =
        let rest : cond (eqb (suc (suc u)) 1) (Some (SharedSlot s)) None ≡ None =
        ap (λ b. cond b (Some (SharedSlot s)) None) (ne_eqb (suc (suc u)) 1 (λ e. omega (arith, e))) in
        ap (λ o. cond (is_slot o u) (Some (GuestSlot p)) None) is ∙ by_eq u v
        (λ e. ap (λ b. cond b (Some (GuestSlot p)) None) (is_same u v e)
        ∙ sym
        (ap (λ b. cond b (Some (GuestSlot p)) (cond (eqb (suc (suc u)) 1) (Some (SharedSlot s)) None))
        (eq-eqb (suc (suc u)) (v + 2) (omega (arith, e)))))
        (λ ne. ap (λ b. cond b (Some (GuestSlot p)) None) (is_not u v ne)
        ∙ sym
        (ap (λ b. cond b (Some (GuestSlot p)) (cond (eqb (suc (suc u)) 1) (Some (SharedSlot s)) None))
        (ne_eqb (suc (suc u)) (v + 2) (λ e. ne (omega (arith, e))))
        ∙ rest))

  -- what is so of parts is so of the same parts
  pub left_as : (l : Layout) (cpu : ℕ) (own : CpuState) (f g : ℕ → Option (Slot A))
      → ((j : ℕ) → f j ≡ g j)
      → IsLeft l cpu own g
      → IsLeft l cpu own f
  left_as l cpu own f g e h = record {
    ready = h.ready;
    whole = h.whole;
    log = h.log;
    history = h.history;
    cpus = h.cpus;
    parts = λ j x q. h.parts j x (sym (e j) ∙ q);
  }

  pub does_as : (l : Layout) (c : Call) (b b' : ℕ → Option (Slot A)) (own : CpuState) (a a' : ℕ → Option (Slot A))
      (owned : CpuState)
      → ((k : ℕ) → b k ≡ b' k)
      → ((k : ℕ) → a k ≡ a' k)
      → Does l c b own a owned → Does l c b' own a' owned
  does_as l c b b' own a a' owned B A' d = record {
    stored = d.stored;
    mine = d.mine;
    used = λ k u. let t = d.used k u in (t.0, t.1, sym (B k) ∙ t.2, sym (A' k) ∙ t.3, t.4);
    only = λ k y e. d.only k y (A' k ∙ e);
    goes = λ s parts o. let t = d.goes s (λ k x e. parts k x (sym (B k) ∙ e)) o in
        (t.0, t.1, (λ k y e. t.2 k y (A' k ∙ e)), t.3, t.4, t.5);
    wants =
        λ why s parts o change made has. d.wants why s (λ k x e. parts k x (sym (B k) ∙ e)) o change made
        (λ k x e. has k x (sym (B k) ∙ e));
  }
