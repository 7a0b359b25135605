-- Raw tables, and a poke of one.
use Rattle.std.proofs.Common.{◌≡◌, ℕ, zero, suc, ◌+◌, ◌-◌, ◌<◌, ◌≤◌, refl, sym, ap, arith, ◌∙◌}
use Rattle.std.proofs.Math.ListN.{set}
use Rattle.std.specs.declared.boxed.Box.{Box}
use native.Mathlib.Numerals.{unary_clauses}
use Rattle.page_state.proofs.Cases.{by_eq}
use Rattle.table_tree.specs.declared.table.Table.{Table}
use Rattle.table_tree.specs.declared.table.Slot.{Slot}
use Rattle.table_tree.specs.declared.table.Slot.TheVariants.{Word, Child}
use Rattle.table_tree.specs.Meaning.{slot_at, slots_of}
use Rattle.table_tree.specs.Shape.{IsWide, MeetsSlot, IsShaped}
use Rattle.table_tree.specs.Raw.{IsRaw}
use Rattle.table_tree.proofs.Slots.{by_slot, meets_child, word_meets, child_meets, shaped_wide, shaped_slot, slot_child_is, child_shaped, set_here, set_others, set_wide}

module _ {A : Type 0} where
  -- a slot of a raw table
  unfoldable pub IsRawSlot : ℕ → Slot A → Type 0
  IsRawSlot zero s = MeetsSlot (λ _. Unit {0}) (λ _. ⊥) s
  IsRawSlot (suc depth) s = MeetsSlot (λ _. Unit {0}) (λ c. IsRaw depth c) s

  pub raw_wide : (n : ℕ) (t : Table A) → IsRaw n t → IsWide t
  unfolding IsRaw
  raw_wide zero t h = h.0
  raw_wide (suc n) t h = h.0

  pub raw_slot : (n : ℕ) (t : Table A) (i : ℕ) → IsRaw n t → i < 512 → IsRawSlot n (slot_at t i)
  unfolding IsRaw IsRawSlot
  raw_slot zero t i h p = h.1 i p
  raw_slot (suc n) t i h p = h.1 i p

  pub raw_made : (n : ℕ) (t : Table A) → IsWide t → ((i : ℕ) → i < 512 → IsRawSlot n (slot_at t i)) → IsRaw n t
  unfolding IsRaw IsRawSlot
  raw_made zero t w h = (w, h)
  raw_made (suc n) t w h = (w, h)

  pub raw_word : (n w : ℕ) (s : Slot A) → s ≡ Word w → IsRawSlot n s
  unfolding IsRawSlot
  raw_word zero w s e = rw e (word_meets (λ _. Unit {0}) (λ _. ⊥) w tt)
  raw_word (suc n) w s e = rw e (word_meets (λ _. Unit {0}) (λ c. IsRaw n c) w tt)

  pub raw_child : (n m : ℕ) (b : Box (Table A) A) (s : Slot A)
      → n ≡ suc m
      → s ≡ Child b
      → IsRaw m b.value
      → IsRawSlot n s
  unfolding IsRawSlot
  raw_child n m b s k e h = rw (k, e) (child_meets (λ _. Unit {0}) (λ c. IsRaw m c) b h)

  -- what a child of a raw table meets
  pub raw_child_is : (n : ℕ) (b : Box (Table A) A) (s : Slot A)
      → IsRawSlot n s
      → s ≡ Child b
      → (1 ≤ n) × IsRaw (n - 1) b.value
  unfolding IsRawSlot
  raw_child_is zero b s h e = absurd (meets_child (λ _. Unit {0}) (λ _. ⊥) b (rw e at h))
  raw_child_is (suc n) b s h e = let x = meets_child (λ _. Unit {0}) (λ c. IsRaw n c) b (rw e at h) in
      (omega arith, simp unary_clauses x)

  pub raw_set : (n : ℕ) (t u : Table A) (i : ℕ) (s : Slot A)
      → IsRaw n t
      → i < 512
      → slots_of u ≡ set (slots_of t) i s
      → IsRawSlot n s
      → IsRaw n u
  raw_set n t u i s h p e m =
      raw_made n u (set_wide t u i s e (raw_wide n t h))
      (λ j q. by_eq j i (λ z. rw (set_here t u i j s e p (raw_wide n t h) z) m)
      (λ z. rw (set_others t u i j s e z) (raw_slot n t j h q)))

  -- a table of a tree is one of a raw tree
  pub shaped_raw : (n : ℕ) (t : Table A) → IsShaped n t → IsRaw n t
  shaped_raw zero t h = raw_made zero t (shaped_wide zero t h)
      (λ i p. by_slot (slot_at t i) (λ w e. raw_word zero w (slot_at t i) e)
      (λ b e. absurd
      (let x = slot_child_is zero b (slot_at t i) (shaped_slot zero t i h p) e in
      let l : 1 ≤ 0 = x.0 in
      omega arith)))
  shaped_raw (suc n) t h = raw_made (suc n) t (shaped_wide (suc n) t h)
      (λ i p. by_slot (slot_at t i) (λ w e. raw_word (suc n) w (slot_at t i) e)
      (λ b e. raw_child (suc n) n b (slot_at t i) refl e
      (shaped_raw n b.value (child_shaped n b (slot_at t i) (shaped_slot (suc n) t i h p) e))))
