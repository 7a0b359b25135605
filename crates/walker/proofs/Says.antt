-- A table whose words go on with the first one's entry, and the word that says it.
use Rattle.std.proofs.Common.{◌≡◌, ℕ, ◌+◌, ◌*◌, ◌<◌, ◌≤◌, sym, ap, subst, arith, ◌∙◌, true}
use Rattle.descriptor.specs.Word.{desc_of}
use Rattle.page_state.specs.declared.entry.Entry.{Entry}
use Rattle.page_state.specs.Blocks.{fits_word}
use Rattle.page_state.specs.Entries.{advance, entry_of_word}
use Rattle.page_state.specs.Geometries.{block_pages}
use Rattle.page_state.proofs.Cases.{by_eq}
use Rattle.page_state.proofs.Entries.{advance-none}
use Rattle.table_tree.specs.declared.table.Table.{Table}
use Rattle.table_tree.specs.declared.table.Slot.TheVariants.{Word}
use Rattle.table_tree.specs.Meaning.{level_at, slot_at}
use Rattle.table_tree.specs.Shape.{IsEntryWord}
use Rattle.table_tree.specs.Tight.{HasEntry, IsOneWord}
use Rattle.walker.specs.inner.Steps.{IsEntryOfParts}
use Rattle.walker.proofs.Opened.{same_word}

start : (x : Entry) (d : ℕ) → advance x (0 * block_pages d) ≡ x
start x d = let z : 0 * block_pages d ≡ 0 = omega arith in ap (λ n. advance x n) z ∙ advance-none x

module _ {A : Type 0} where
  -- a table that is one word is that of its first word's entry
  pub says_first : (d w : ℕ) (t : Table A) (first : Entry) (o : IsOneWord d t)
      → slot_at t 0 ≡ Word w
      → first ≡ entry_of_word (desc_of (level_at d) w)
      → o.entry ≡ first
  says_first d w t first o e h =
      let p = o.parts 0 (omega arith) in
      let same : p.0 ≡ w = same_word p.0 w (slot_at t 0) p.1 e in
      sym (start o.entry d) ∙ sym p.2 ∙ ap (λ v. entry_of_word (desc_of (level_at d) v)) same ∙ sym h

  pub says_parts : (d : ℕ) (t : Table A) (first : Entry) (o : IsOneWord d t)
      → o.entry ≡ first
      → (k : ℕ)
      → 1 ≤ k
      → k < 512
      → HasEntry d (advance first (k * block_pages d)) (slot_at t k)
  says_parts d t first o e k a b = subst (λ x. HasEntry d (advance x (k * block_pages d)) (slot_at t k)) e (o.parts k b)

  pub says_made : (d w word : ℕ) (t : Table A) (first : Entry)
      → slot_at t 0 ≡ Word w
      → first ≡ entry_of_word (desc_of (level_at d) w)
      → ((k : ℕ) → 1 ≤ k → k < 512 → HasEntry d (advance first (k * block_pages d)) (slot_at t k))
      → IsEntryWord (d + 1) word
      → entry_of_word (desc_of (level_at (d + 1)) word) ≡ first
      → fits_word (d + 1) first ≡ true
      → IsEntryOfParts d t word
  says_made d w word t first e h on said value fits = record {
    said = said;
    fits = ap (λ x. fits_word (d + 1) x) value ∙ fits;
    parts = λ k p. subst (λ x. HasEntry d (advance x (k * block_pages d)) (slot_at t k)) (sym value) (by_eq k 0
        (λ z. subst (λ j. HasEntry d (advance first (j * block_pages d)) (slot_at t j)) (sym z)
        (w, e, sym h ∙ sym (start first d)))
        (λ z. on k (omega (arith, z)) p));
  }
