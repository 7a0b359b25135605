-- Parts as a view holds them, and as they are lent.
use Rattle.std.proofs.Common.{◌≡◌, ◌≢◌, ℕ, ◌∷◌, Bool, true, false, cond, eqb, refl, sym, ap, ◌∙◌, subst, eq-eqb, ne_eqb}
use Rattle.std.specs.Prelude.{Option, Some, None}
use Rattle.part_table.specs.declared.slot.Slot.{Slot}
use Rattle.part_table.specs.Rule.{Hands, held_at}
use Rattle.part_table.specs.Does.{only_at, both_at}
use Rattle.part_table.proofs.Pairs.{at_same, at_other, part_same}

module _ {A : Type 0} where
  -- what an idle pass holds once it has taken a part, or two
  pub one_held : (h : Hands A) (k : ℕ) (x : Slot A)
      → ((j : ℕ) → held_at h j ≡ None)
      → (j : ℕ)
      → only_at k x j ≡ held_at ((k, Some x) ∷ h) j
  one_held h k x none j = ap (λ o. cond (eqb j k) (Some x) o) (sym (none j))

  pub two_held : (h : Hands A) (k i : ℕ) (x y : Slot A)
      → ((j : ℕ) → held_at h j ≡ None)
      → (j : ℕ)
      → both_at k x i y j ≡ held_at ((k, Some x) ∷ (i, Some y) ∷ h) j
  two_held h k i x y none j = ap (λ o. cond (eqb j k) (Some x) (cond (eqb j i) (Some y) o)) (sym (none j))

  -- and once they are home again
  pub one_gone : (h : Hands A) (k : ℕ) (o : Option (Slot A))
      → ((j : ℕ) → held_at h j ≡ None)
      → (j : ℕ)
      → held_at ((k, None) ∷ (k, o) ∷ h) j ≡ None
  one_gone h k o none j = go (eqb j k)
    where
      go : (b : Bool) → cond b None (cond b o (held_at h j)) ≡ None
      go true = refl
      go false = none j

  pub two_gone : (h : Hands A) (k i : ℕ) (x y : Option (Slot A))
      → ((j : ℕ) → held_at h j ≡ None)
      → (j : ℕ)
      → held_at ((i, None) ∷ (k, None) ∷ (k, x) ∷ (i, y) ∷ h) j ≡ None
  two_gone h k i x y none j = go (eqb j k) (eqb j i)
    where
      go : (b d : Bool) → cond d None (cond b None (cond b x (cond d y (held_at h j)))) ≡ None
      go true true = refl
      go true false = refl
      go false true = refl
      go false false = none j

  -- where one list has a part, another of the same numbers has one
  pub only_like : (k j : ℕ) (x y z : Slot A) → only_at k x j ≡ Some z → only_at k y j ≡ Some y
  only_like k j x y z = go (eqb j k)
    where
      go : (b : Bool) → cond b (Some x) None ≡ Some z → cond b (Some y) None ≡ Some y
      go true e = refl
      go false e = absurd cc

  pub both_like : (k i j : ℕ) (x y x' y' z : Slot A)
      → both_at k x i y j ≡ Some z
      → (w : Slot A) × (both_at k x' i y' j ≡ Some w)
  both_like k i j x y x' y' z = go (eqb j k) (eqb j i)
    where
      go : (b d : Bool)
          → cond b (Some x) (cond d (Some y) None) ≡ Some z
          → (w : Slot A) × (cond b (Some x') (cond d (Some y') None) ≡ Some w)
      go true d e = (x', refl)
      go false true e = (y', refl)
      go false false e = absurd cc

  -- what holds of one part, or of two, holds of each that is lent
  pub only_each : (F : Slot A → Type 0) (k : ℕ) (x : Slot A) → F x → (j : ℕ) (y : Slot A) → only_at k x j ≡ Some y → F y
  only_each F k x here j y = go (eqb j k)
    where
      go : (b : Bool) → cond b (Some x) None ≡ Some y → F y
      go true e = subst F (part_same x y e) here
      go false e = absurd cc

  pub both_each : (F : Slot A → Type 0) (k i : ℕ) (x y : Slot A)
      → F x
      → F y
      → (j : ℕ) (z : Slot A)
      → both_at k x i y j ≡ Some z
      → F z
  both_each F k i x y first second j z = go (eqb j k) (eqb j i)
    where
      go : (b d : Bool) → cond b (Some x) (cond d (Some y) None) ≡ Some z → F z
      go true d e = subst F (part_same x z e) first
      go false true e = subst F (part_same y z e) second
      go false false e = absurd cc

  pub only_here : (k : ℕ) (x : Slot A) → only_at k x k ≡ Some x
  only_here k x = ap (λ b. cond b (Some x) None) (eq-eqb k k refl)

  pub at_first : (k i : ℕ) (x y : Slot A) → both_at k x i y k ≡ Some x
  at_first k i x y = ap (λ b. cond b (Some x) (cond (eqb k i) (Some y) None)) (eq-eqb k k refl)

  pub at_second : (k i : ℕ) (x y : Slot A) → i ≢ k → both_at k x i y i ≡ Some y
  at_second k i x y ne = (λ j. cond (ne_eqb i k ne j) (Some x) (cond (eq-eqb i i refl j) (Some y) None))

  pub second_held : (g : ℕ) (x y : Slot A) (h : Hands A)
      → 1 ≢ g
      → held_at ((g, None) ∷ (g, Some x) ∷ (1, Some y) ∷ h) 1 ≡ Some y
  second_held g x y h ne =
      at_other ((g, Some x) ∷ (1, Some y) ∷ h) g 1 None None ne
      ∙ (at_other ((1, Some y) ∷ h) g 1 (Some x) None ne ∙ at_same h 1 (Some y) None)
