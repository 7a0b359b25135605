use Rattle.std.proofs.Common.{◌≡◌, ℕ, zero, suc, ◌<◌, get_or, refl, ap, arith, ◌∙◌, cond, Some, None}
use Rattle.std.proofs.Math.ListN.{set}
use Rattle.std.specs.declared.boxed.Box.{Box}
use Rattle.page_state.proofs.Cases.{by_eq}
use Rattle.page_state.proofs.Common.{eq-other}
use Rattle.table_tree.specs.declared.table.Table.{Table}
use Rattle.table_tree.specs.declared.table.Slot.TheVariants.{Word, Child}
use Rattle.table_tree.specs.Meaning.{slot_at, slots_of, frame_of}
use Rattle.table_tree.specs.Shape.{IsWide, IsBlank, IsShaped, HoldsWord}
use Rattle.table_tree.specs.Tight.{IsOneWord, IsTight}
use Rattle.table_tree.specs.Changes.{IsNew, IsCleared}
use Rattle.table_tree.proofs.Slots.{meets_child, word_meets, child_meets, set_here, set_others, shaped_wide, shaped_slot, shaped_made, shaped_set, slot_word_made}
use Rattle.table_tree.proofs.Words.{zero_said}
use Rattle.table_tree.proofs.Steps.{blank_words, blank_shaped, blank_entries}
use Rattle.table_tree.proofs.Sums.{words_tables, words_uses}
use Rattle.table_tree.proofs.Standing.{words_standing}

module _ {A : Type 0} where
  pub tight_word : (d : ℕ) (t u : Table A) (i w : ℕ)
      → IsTight d t
      → IsWide t
      → i < 512
      → slots_of u ≡ set (slots_of t) i (Word w)
      → IsTight d u
  unfolding IsTight
  tight_word zero t u i w h s p e = tt
  tight_word (suc d) t u i w h s p e = λ j q. by_eq j i
      (λ z. rw (set_here t u i j (Word w) e p s z)
      (word_meets (λ _. Unit {0}) (λ c. (IsOneWord d c → ⊥) × IsTight d c) w tt))
      (λ z. rw (set_others t u i j (Word w) e z) (h j q))

  pub tight_attach : (d : ℕ) (t u : Table A) (i : ℕ) (b : Box (Table A) A)
      → IsTight (suc d) t
      → IsWide t
      → i < 512
      → slots_of u ≡ set (slots_of t) i (Child b)
      → (IsOneWord d b.value → ⊥)
      → IsTight d b.value
      → IsTight (suc d) u
  unfolding IsTight
  tight_attach d t u i b h s p e n m = λ j q. by_eq j i
      (λ z. rw (set_here t u i j (Child b) e p s z)
      (child_meets (λ _. Unit {0}) (λ c. (IsOneWord d c → ⊥) × IsTight d c) b (n, m)))
      (λ z. rw (set_others t u i j (Child b) e z) (h j q))

  pub tight_child : (d : ℕ) (u : Table A) (i : ℕ) (b : Box (Table A) A)
      → IsTight (suc d) u
      → i < 512
      → slot_at u i ≡ Child b
      → (IsOneWord d b.value → ⊥) × IsTight d b.value
  unfolding IsTight
  tight_child d u i b h p e = meets_child (λ _. Unit {0}) (λ c. (IsOneWord d c → ⊥) × IsTight d c) b (rw e at (h i p))

  words_tight : (d : ℕ) (t : Table A) → ((i : ℕ) → i < 512 → HoldsWord (slot_at t i)) → IsTight d t
  unfolding IsTight
  words_tight zero t h = tt
  words_tight (suc d) t h = λ i p. let x = h i p in
      rw x.1 (word_meets (λ _. Unit {0}) (λ c. (IsOneWord d c → ⊥) × IsTight d c) x.0 tt)

  same_shape : (d : ℕ) (t u : Table A) → slots_of u ≡ slots_of t → IsShaped d t → IsShaped d u
  same_shape d t u e x =
      shaped_made d u (rw e (shaped_wide d t x)) (λ i p. rw (ap (λ l. get_or l i (Word 0)) e) (shaped_slot d t i x p))

  same_tight : (d : ℕ) (t u : Table A) → slots_of u ≡ slots_of t → IsTight d t → IsTight d u
  unfolding IsTight
  same_tight zero t u e x = tt
  same_tight (suc d) t u e x = λ i p. rw (ap (λ l. get_or l i (Word 0)) e) (x i p)

  pub new_table : (t : Table A) → IsWide t → IsBlank t → IsNew t
  new_table t w h =
      let words = blank_words t h in
      record {
        map = λ d q. blank_entries d t h q;
        tables = λ d. words_tables d t w words;
        uses = λ d f. words_uses d t f w words;
        standing =
            λ d low q l. words_standing d t low q words
            ∙ ap (λ b. cond b (Some (frame_of t)) None) (eq-other low d (λ e. let l' : low < d = l in omega arith));
        shape = λ d. blank_shaped d t w h;
        tight = λ d. words_tight d t words;
      }

  pub cleared : (t u : Table A) (i : ℕ) → IsWide t → i < 512 → slots_of u ≡ set (slots_of t) i (Word 0) → IsCleared t u
  cleared t u i w p e = record {
    shape = λ d x. shaped_set d t u i (Word 0) x p e (slot_word_made d 0 (Word 0) refl (zero_said d));
    tight = λ d x. tight_word d t u i 0 x w p e;
  }

  pub same_cleared : (t u : Table A) → slots_of u ≡ slots_of t → IsCleared t u
  same_cleared t u e = record {
    shape = λ d x. same_shape d t u e x;
    tight = λ d x. same_tight d t u e x;
  }
