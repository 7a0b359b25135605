use Rattle.std.proofs.Common.{◌≡◌, ℕ, zero, suc, ◌-◌, ◌<◌, ◌≤◌, List, [], ◌∷◌, length, get_or, refl, sym, ap, arith, ◌∙◌, true, false, Option, Some, None, ltb, take, drop}
use Rattle.std.proofs.lemmas.Bool.Decides.{nat_tests}
use Rattle.std.proofs.lemmas.List.{take_all}
use Rattle.std.specs.declared.boxed.Box.{Box}
use Rattle.page_state.specs.declared.entry.Entry.TheVariants.{Unmapped}
use Rattle.table_tree.specs.declared.table.Table.{Table}
use Rattle.table_tree.specs.declared.table.Slot.{Slot}
use Rattle.table_tree.specs.declared.table.Slot.TheVariants.{Word, Child}
use Rattle.table_tree.specs.Meaning.{index_at, slot_at, frame_of, word_entry, entry_at, word_at, slot_word, table_word}
use Rattle.table_tree.specs.Shape.{IsWide, IsBlank, HoldsWord, IsShaped}
use Rattle.table_tree.specs.Slots.{slot_entry}
use Rattle.table_tree.proofs.Slots.{case_word, case_child, shaped_made, slot_word_made}
use Rattle.table_tree.proofs.Words.{zero_said, zero_entry}
use Rattle.table_tree.proofs.Digits.{index_small}

module _ {A : Type 0} where
  pub entry_step : (n : ℕ) (t : Table A) (q : ℕ) → entry_at n t q ≡ slot_entry n (slot_at t (index_at n q)) q
  unfolding entry_at slot_entry
  entry_step zero t q = refl
  entry_step (suc n) t q = refl

  pub word_gives : (n q w : ℕ) (s : Slot A) → s ≡ Word w → slot_entry n s q ≡ word_entry n q w
  unfolding slot_entry
  word_gives zero q w s e = rw e (case_word _ _ w)
  word_gives (suc n) q w s e = rw e (case_word _ _ w)

  pub child_gives : (n m q : ℕ) (b : Box (Table A) A) (s : Slot A)
      → n ≡ suc m
      → s ≡ Child b
      → slot_entry n s q ≡ entry_at m b.value q
  unfolding slot_entry
  child_gives n m q b s k e = rw (k, e) (case_child _ _ b)

  -- looking
  pub look_word : (n q i w : ℕ) (t : Table A) (s : Slot A)
      → i ≡ index_at n q
      → s ≡ slot_at t i
      → s ≡ Word w
      → word_entry n q w ≡ entry_at n t q
  look_word n q i w t s x y e = sym (entry_step n t q ∙ rw (sym x) (word_gives n q w (slot_at t i) (sym y ∙ e)))

  pub look_child : (n q i : ℕ) (t : Table A) (b : Box (Table A) A) (s : Slot A)
      → 1 ≤ n
      → i ≡ index_at n q
      → s ≡ slot_at t i
      → s ≡ Child b
      → entry_at (n - 1) b.value q ≡ entry_at n t q
  look_child n q i t b s k x y e =
      sym (entry_step n t q ∙ rw (sym x) (child_gives n (n - 1) q b (slot_at t i) (omega arith) (sym y ∙ e)))

  -- tables of words
  pub blank_words : (t : Table A) → IsBlank t → (i : ℕ) → i < 512 → HoldsWord (slot_at t i)
  blank_words t h i p = (0, h i p)

  pub blank_shaped : (n : ℕ) (t : Table A) → IsWide t → IsBlank t → IsShaped n t
  blank_shaped n t w h = shaped_made n t w (λ i p. slot_word_made n 0 (slot_at t i) (h i p) (zero_said n))

  pub blank_entries : (n : ℕ) (t : Table A) → IsBlank t → (q : ℕ) → entry_at n t q ≡ Unmapped
  blank_entries n t h q =
      entry_step n t q ∙ word_gives n q 0 (slot_at t (index_at n q)) (h (index_at n q) (index_small n q))
      ∙ zero_entry n q

  -- words at paths
  pub path_end : (t : Table A) (p : List ℕ) → length p < 1 → None ≡ word_at t p
  unfolding word_at
  path_end t [] h = refl
  path_end t (x ∷ p) h = absurd (omega arith)

  pub path_over : (t : Table A) (p : List ℕ) → 1 ≤ length p → 512 ≤ get_or p 0 0 → None ≡ word_at t p
  unfolding word_at
  path_over t [] h k = absurd (omega arith)
  path_over t (x ∷ []) h k = let z : ltb x 512 ≡ false = grind (arith, nat_tests) in rw z refl
  path_over t (x ∷ y ∷ p) h k = let z : ltb x 512 ≡ false = grind (arith, nat_tests) in rw z refl

  pub path_last : (t : Table A) (p : List ℕ) (s : Slot A)
      → length p ≡ 1
      → get_or p 0 0 < 512
      → s ≡ slot_at t (get_or p 0 0)
      → Some (slot_word s) ≡ word_at t p
  unfolding word_at
  path_last t [] s h k e = absurd (omega arith)
  path_last t (x ∷ []) s h k e = let z : ltb x 512 ≡ true = grind (arith, nat_tests) in rw (z, e) refl
  path_last t (x ∷ y ∷ p) s h k e = absurd (omega arith)

  pub path_stop : (t : Table A) (p : List ℕ) (s : Slot A) (w : ℕ)
      → 2 ≤ length p
      → get_or p 0 0 < 512
      → s ≡ slot_at t (get_or p 0 0)
      → s ≡ Word w
      → None ≡ word_at t p
  unfolding word_at
  path_stop t [] s w h k e f = absurd (omega arith)
  path_stop t (x ∷ []) s w h k e f = absurd (omega arith)
  path_stop t (x ∷ y ∷ p) s w h k e f = let z : ltb x 512 ≡ true = grind (arith, nat_tests) in
      rw (z, sym e, f) (sym (case_word {R = Option ℕ} _ _ w))

  pub path_below : (t : Table A) (p : List ℕ) (s : Slot A) (b : Box (Table A) A)
      → 2 ≤ length p
      → get_or p 0 0 < 512
      → s ≡ slot_at t (get_or p 0 0)
      → s ≡ Child b
      → word_at b.value (take (length p - 1) (drop 1 p)) ≡ word_at t p
  unfolding word_at
  path_below t [] s b h k e f = absurd (omega arith)
  path_below t (x ∷ []) s b h k e f = absurd (omega arith)
  path_below t (x ∷ y ∷ p) s b h k e f =
      let z : ltb x 512 ≡ true = grind (arith, nat_tests) in
      ap (λ r. word_at b.value r) (take_all (length (x ∷ y ∷ p) - 1) (y ∷ p) (omega arith))
      ∙ rw (z, sym e, f) (sym (case_child {R = Option ℕ} _ _ b))

  pub slot_word_here : (w : ℕ) (s : Slot A) → s ≡ Word w → w ≡ slot_word s
  slot_word_here w s e = rw e (sym (case_word {R = ℕ} _ _ w))

  pub slot_word_child : (b : Box (Table A) A) (s : Slot A) → s ≡ Child b → table_word (frame_of b.value) ≡ slot_word s
  slot_word_child b s e = rw e (sym (case_child {R = ℕ} _ _ b))
