-- A table after a write of one slot.
use Rattle.std.proofs.Common.{◌≡◌, ℕ, ◌+◌, ◌*◌, ◌%◌, ◌<◌, ◌≢◌, sym, ap, arith, refl, ◌∙◌, cond, List, Option, Some, None, take}
use Rattle.std.proofs.Math.ListN.{set}
use Rattle.descriptor.specs.Word.{desc_of}
use Rattle.page_state.specs.declared.entry.Entry.{Entry}
use Rattle.page_state.specs.Counts.{frame_count}
use Rattle.page_state.specs.Entries.{advance, entry_of_word}
use Rattle.page_state.specs.Geometries.{block_pages}
use Rattle.page_state.proofs.Cases.{by_eq}
use Rattle.page_state.proofs.Entries.{advance-more}
use Rattle.page_state.proofs.Common.{eq-made, eq-other}
use Rattle.table_tree.specs.declared.table.Table.{Table}
use Rattle.table_tree.specs.declared.table.Slot.TheVariants.{Word}
use Rattle.table_tree.specs.Meaning.{level_at, index_at, slot_at, slots_of, word_entry, entry_at}
use Rattle.table_tree.specs.Shape.{IsWide, IsEntryWord}
use Rattle.table_tree.specs.Changes.{IsAttached, IsWritten}
use Rattle.table_tree.proofs.Digits.{digits}
use Rattle.table_tree.proofs.Slots.{set_here, set_others}
use Rattle.table_tree.specs.Tables.{uses_in, table_in}
use Rattle.table_tree.specs.Tight.{IsOneWordAt}
use Rattle.walk_plan.specs.declared.change.Change.{Change}
use Rattle.walk_plan.specs.Changes.{changed_entry}
use Rattle.walk_plan.specs.inner.Needs.{slot_need}
use Rattle.walk_plan.specs.inner.Ranks.{given_rank, slot_rank, slot_gone}
use Rattle.walker.specs.inner.Steps.{IsPart, IsRewritten}
use Rattle.walker.proofs.Parts.{part_made}

no_rank : (frames : List ℕ) (x rank : Option ℕ) → rank ≡ None → x ≡ given_rank frames x rank
no_rank frames (Some f) rank e = refl
no_rank frames None rank e = rw e refl

module _ {A : Type 0} where
  -- a word written for part `i` of a block
  pub written_map : (d i w m : ℕ) (x p : Entry) (t u : Table A)
      → IsWritten i w t u
      → entry_of_word (desc_of (level_at d) w) ≡ p
      → p ≡ advance x m
      → m ≡ i * block_pages d
      → ((q : ℕ) → index_at d q < i → entry_at d t q ≡ advance x (q % block_pages (d + 1)))
      → (q : ℕ)
      → index_at d q < i + 1
      → entry_at d u q ≡ advance x (q % block_pages (d + 1))
  written_map d i w m x p t u h a b c before q l =
      by_eq (index_at d q) i
      (λ z. h.map d q ∙ ap (λ o. cond o (word_entry d q w) (entry_at d t q)) (eq-made (index_at d q) i z)
      ∙ ap (λ e. advance e (q % block_pages d))
      (a ∙ b ∙ ap (λ k. advance x k) (c ∙ ap (λ j. j * block_pages d) (sym z)))
      ∙ advance-more x (index_at d q * block_pages d) (q % block_pages d)
      ∙ ap (λ k. advance x k) (sym (digits d q)))
      (λ z. h.map d q ∙ ap (λ o. cond o (word_entry d q w) (entry_at d t q)) (eq-other (index_at d q) i z)
      ∙ before q (omega arith))

  pub written_parts : (d i w m : ℕ) (x p : Entry) (t u : Table A)
      → IsWide t
      → i < 512
      → slots_of u ≡ set (slots_of t) i (Word w)
      → IsEntryWord d w
      → entry_of_word (desc_of (level_at d) w) ≡ p
      → p ≡ advance x m
      → m ≡ i * block_pages d
      → ((k : ℕ) → k < i → IsPart d x k (slot_at t k)) → (k : ℕ) → k < i + 1 → IsPart d x k (slot_at u k)
  written_parts d i w m x p t u wide l e said a b c before k q =
      by_eq k i
      (λ z. part_made d k w m x (slot_at u k) (set_here t u i k (Word w) e l wide z) said (a ∙ b)
      (c ∙ ap (λ j. j * block_pages d) (sym z)))
      (λ z. rw (set_others t u i k (Word w) e z) (before k (omega arith)))

  -- the pages of the other slots, after a write
  pub written_other : (d i w : ℕ) (t u : Table A)
      → IsWritten i w t u
      → (q : ℕ)
      → index_at d q ≢ i
      → entry_at d u q ≡ entry_at d t q
  written_other d i w t u h q x =
      h.map d q ∙ ap (λ o. cond o (word_entry d q w) (entry_at d t q)) (eq-other (index_at d q) i x)

  -- a child put into slot `i`
  module _ (d i : ℕ) (t u c : Table A) (a : IsAttached i t u c) where
    pub put_here : (q : ℕ) → index_at (d + 1) q ≡ i → entry_at (d + 1) u q ≡ entry_at d c q
    put_here q x =
        a.map d q ∙ ap (λ z. cond z (entry_at d c q) (entry_at (d + 1) t q)) (eq-made (index_at (d + 1) q) i x)

    pub put_other : (q : ℕ) → index_at (d + 1) q ≢ i → entry_at (d + 1) u q ≡ entry_at (d + 1) t q
    put_other q x =
        a.map d q ∙ ap (λ z. cond z (entry_at d c q) (entry_at (d + 1) t q)) (eq-other (index_at (d + 1) q) i x)

    pub put_stand : (low q : ℕ)
        → low < d + 1
        → index_at (d + 1) q ≢ i
        → table_in (d + 1) u low q ≡ table_in (d + 1) t low q
    put_stand low q l x =
        a.standing d low q (omega arith)
        ∙ ap (λ z. cond z (table_in d c low q) (table_in (d + 1) t low q)) (eq-other (index_at (d + 1) q) i x)

  -- a slot that got the word that the change makes of its word
  module _ (d i w : ℕ) (c : Change) (t u : Table A) (h : IsWritten i w t u) (r : IsRewritten d i t c w) where
    pub word_map : (q : ℕ) → index_at d q ≡ i → entry_at d u q ≡ changed_entry d (entry_at d t) c q
    word_map q x =
        h.map d q ∙ ap (λ o. cond o (word_entry d q w) (entry_at d t q)) (eq-made (index_at d q) i x) ∙ r.map q x

    pub word_kept : (fs : List ℕ) (low q : ℕ)
        → low < d
        → index_at d q ≡ i
        → (IsOneWordAt (low + 1) (entry_at d u) q → ⊥)
        → table_in d u low q ≡ given_rank fs (table_in d t low q) (slot_rank d (slot_at t i) c low q)
    word_kept fs low q l x n =
        h.standing d low q ∙ no_rank fs (table_in d t low q) (slot_rank d (slot_at t i) c low q) (r.rank low q)

    pub word_uses : (fs : List ℕ) (f : ℕ)
        → uses_in d u f + slot_gone d (slot_at t i) c f
        ≡ uses_in d t f + frame_count f (take (slot_need d (slot_at t i) c) fs)
    word_uses fs f = rw (r.need, r.gone f) (ap (λ n. n + 0) (h.uses d f))
