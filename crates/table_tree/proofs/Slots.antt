use Rattle.std.proofs.Common.{◌≡◌, ℕ, zero, suc, ◌-◌, ◌<◌, ◌≤◌, ◌≢◌, List, [], ◌∷◌, length, get_or, refl, sym, ap, arith, ◌∙◌, inl, inr, ◌⊎◌}
use Rattle.std.proofs.lemmas.List.{get_or_read_under, get_or-set_other, set-get_or}
use Rattle.std.proofs.lemmas.Grind.{get_or-set_at}
use Rattle.std.proofs.Math.ListN.{set, length-set}
use Rattle.std.specs.declared.boxed.Box.{Box}
use native.Mathlib.Numerals.{unary_clauses}
use Rattle.page_state.proofs.Cases.{by_eq}
use Rattle.table_tree.specs.declared.table.Table.{Table}
use Rattle.table_tree.specs.declared.table.Slot.{Slot, out-Slot}
use Rattle.table_tree.specs.declared.table.Slot.TheVariants.{Word, Child}
use Rattle.table_tree.specs.declared.table.Slot.TheViews.{outs-Word, outs-Child, roll-out-Slot, roll-Slot, rolls-Word, rolls-Child}
use Rattle.table_tree.specs.declared.table.Slot.TheOpen.{Word as OpenWord, Child as OpenChild}
use Rattle.table_tree.specs.Meaning.{slot_at, slots_of, slot_case}
use Rattle.table_tree.specs.Shape.{IsWide, MeetsSlot, IsEntryWord, IsShaped}
use Rattle.table_tree.specs.Slots.{IsSlot}

pub set_twice : {X : Type 0} (xs : List X) (i : ℕ) (a s : X) → set (set xs i a) i s ≡ set xs i s
set_twice [] i a s = refl
set_twice (x ∷ xs) zero a s = refl
set_twice (x ∷ xs) (suc i) a s = ap (λ ys. x ∷ ys) (set_twice xs i a s)

pub set_back : {X : Type 0} (xs : List X) (i : ℕ) (a s : X)
    → i < length xs
    → s ≡ get_or xs i s
    → set (set xs i a) i s ≡ xs
set_back xs i a s p e = set_twice xs i a s ∙ ap (λ x. set xs i x) e ∙ set-get_or xs i s

pub get_any : {X : Type 0} (xs : List X) (i : ℕ) (a b : X) → i < length xs → get_or xs i a ≡ get_or xs i b
get_any [] i a b p = absurd (omega arith)
get_any (x ∷ xs) zero a b p = refl
get_any (x ∷ xs) (suc i) a b p = get_any xs i a b (omega arith)

module _ {A : Type 0} where
  slot_cases : (s : Slot A) → ((w : ℕ) × (s ≡ Word w)) ⊎ ((b : Box (Table A) A) × (s ≡ Child b))
  slot_cases s =
      elim
      (out-Slot A s) as (λ o. roll-Slot A o ≡ s
      → ((w : ℕ) × (s ≡ Word w)) ⊎ ((b : Box (Table A) A) × (s ≡ Child b))) [
        | OpenWord w ↦ λ e. inl (w, sym e ∙ rolls-Word {X1 = A} w)
        | OpenChild b ↦ λ e. inr (b, sym e ∙ rolls-Child b)
      ]
      (roll-out-Slot A s)

  -- a slot is a word or a child
  pub by_slot : {P : Type 0} (s : Slot A) → ((w : ℕ) → s ≡ Word w → P) → ((b : Box (Table A) A) → s ≡ Child b → P) → P
  by_slot {P} s g h = elim (slot_cases s) as (λ _. P) [ inl x ↦ g x.0 x.1 | inr x ↦ h x.0 x.1 ]

  pub case_word : {R : Type 0} (here : ℕ → R) (below : Table A → R) (w : ℕ) → slot_case here below (Word w) ≡ here w
  case_word here below w = rw (outs-Word {X1 = A} w, slot_case) refl

  pub case_child : {R : Type 0} (here : ℕ → R) (below : Table A → R) (b : Box (Table A) A)
      → slot_case here below (Child b) ≡ below b.value
  case_child here below b = rw (outs-Child b, slot_case) refl

  pub meets_child : (here : ℕ → Type 0) (below : Table A → Type 0) (b : Box (Table A) A)
      → MeetsSlot here below (Child b)
      → below b.value
  meets_child here below b h = rw (outs-Child b, MeetsSlot) at h

  pub meets_word : (here : ℕ → Type 0) (below : Table A → Type 0) (w : ℕ) → MeetsSlot here below (Word w) → here w
  meets_word here below w h = rw (outs-Word {X1 = A} w, MeetsSlot) at h

  pub word_meets : (here : ℕ → Type 0) (below : Table A → Type 0) (w : ℕ) → here w → MeetsSlot here below (Word w)
  word_meets here below w h = rw (outs-Word {X1 = A} w, MeetsSlot) h

  pub child_meets : (here : ℕ → Type 0) (below : Table A → Type 0) (b : Box (Table A) A)
      → below b.value
      → MeetsSlot here below (Child b)
  child_meets here below b h = rw (outs-Child b, MeetsSlot) h

  pub read_slot : (t : Table A) (i n : ℕ) (x : Slot A)
      → x ≡ get_or t.slots.items i x
      → i < n
      → n ≡ 512
      → n ≡ length t.slots.items
      → x ≡ slot_at t i
  read_slot t i n x e p q r = get_or_read_under t.slots.items i n x _ e p r

  -- a word put back where it was taken
  pub taken_back : (t u v : Table A) (i : ℕ) (s r a : Slot A)
      → i < 512
      → IsWide t
      → r ≡ slot_at t i
      → r ≡ s
      → slots_of u ≡ set (slots_of t) i a
      → slots_of v ≡ set (slots_of u) i s
      → slots_of v ≡ slots_of t
  taken_back t u v i s r a p w e e' x y =
      let q : i < length (slots_of t) = omega (arith, w) in
      rw (y, x) (set_back (slots_of t) i a s q (sym e' ∙ e ∙ get_any (slots_of t) i (Word 0) s q))

  -- a table after a write of one slot
  pub set_here : (t u : Table A) (i j : ℕ) (s : Slot A)
      → slots_of u ≡ set (slots_of t) i s
      → i < 512
      → IsWide t
      → j ≡ i
      → slot_at u j ≡ s
  set_here t u i j s e p w q = rw e (get_or-set_at (slots_of t) i j s _ q (omega (arith, w)))

  pub set_others : (t u : Table A) (i j : ℕ) (s : Slot A)
      → slots_of u ≡ set (slots_of t) i s
      → j ≢ i
      → slot_at u j ≡ slot_at t j
  set_others t u i j s e q = rw e (get_or-set_other (slots_of t) i j s _ q)

  pub set_wide : (t u : Table A) (i : ℕ) (s : Slot A) → slots_of u ≡ set (slots_of t) i s → IsWide t → IsWide u
  set_wide t u i s e w = rw (e, length-set) w

  -- shapes
  pub shaped_wide : (n : ℕ) (t : Table A) → IsShaped n t → IsWide t
  unfolding IsShaped
  shaped_wide zero t h = h.0
  shaped_wide (suc n) t h = h.0

  pub shaped_slot : (n : ℕ) (t : Table A) (i : ℕ) → IsShaped n t → i < 512 → IsSlot n (slot_at t i)
  unfolding IsShaped IsSlot
  shaped_slot zero t i h p = h.1 i p
  shaped_slot (suc n) t i h p = h.1 i p

  pub shaped_made : (n : ℕ) (t : Table A) → IsWide t → ((i : ℕ) → i < 512 → IsSlot n (slot_at t i)) → IsShaped n t
  unfolding IsShaped IsSlot
  shaped_made zero t w h = (w, h)
  shaped_made (suc n) t w h = (w, h)

  pub slot_word_made : (n w : ℕ) (s : Slot A) → s ≡ Word w → IsEntryWord n w → IsSlot n s
  unfolding IsSlot
  slot_word_made zero w s e h = rw e (word_meets (IsEntryWord zero) (λ _. ⊥) w h)
  slot_word_made (suc n) w s e h = rw e (word_meets (IsEntryWord (suc n)) (λ c. IsShaped n c) w h)

  pub slot_child_made : (n m : ℕ) (b : Box (Table A) A) (s : Slot A)
      → n ≡ suc m
      → s ≡ Child b
      → IsShaped m b.value
      → IsSlot n s
  unfolding IsSlot
  slot_child_made n m b s k e h = rw (k, e) (child_meets (IsEntryWord (suc m)) (λ c. IsShaped m c) b h)

  pub slot_word_is : (n w : ℕ) (s : Slot A) → IsSlot n s → s ≡ Word w → IsEntryWord n w
  unfolding IsSlot
  slot_word_is zero w s h e = meets_word (IsEntryWord zero) (λ _. ⊥) w (rw e at h)
  slot_word_is (suc n) w s h e = meets_word (IsEntryWord (suc n)) (λ c. IsShaped n c) w (rw e at h)

  -- what a child of a shaped table meets
  pub slot_child_is : (n : ℕ) (b : Box (Table A) A) (s : Slot A)
      → IsSlot n s
      → s ≡ Child b
      → (1 ≤ n) × IsShaped (n - 1) b.value
  unfolding IsSlot
  slot_child_is zero b s h e = absurd (meets_child (IsEntryWord zero) (λ _. ⊥) b (rw e at h))
  slot_child_is (suc n) b s h e = let x = meets_child (IsEntryWord (suc n)) (λ c. IsShaped n c) b (rw e at h) in
      (omega arith, simp unary_clauses x)

  pub child_shaped : (n : ℕ) (b : Box (Table A) A) (s : Slot A) → IsSlot (suc n) s → s ≡ Child b → IsShaped n b.value
  unfolding IsSlot
  child_shaped n b s h e = (meets_child (IsEntryWord (suc n)) (λ c. IsShaped n c) b (rw e at h))

  pub shaped_set : (n : ℕ) (t u : Table A) (i : ℕ) (s : Slot A)
      → IsShaped n t
      → i < 512
      → slots_of u ≡ set (slots_of t) i s
      → IsSlot n s
      → IsShaped n u
  shaped_set n t u i s h p e m =
      shaped_made n u (set_wide t u i s e (shaped_wide n t h))
      (λ j q. by_eq j i (λ z. rw (set_here t u i j s e p (shaped_wide n t h) z) m)
      (λ z. rw (set_others t u i j s e z) (shaped_slot n t j h q)))
