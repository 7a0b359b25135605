-- Entries of changed blocks, and entries that repeat from block to block.
use Rattle.std.proofs.Common.{◌≡◌, ℕ, zero, suc, ◌+◌, ◌-◌, ◌*◌, ◌/◌, ◌%◌, ◌<◌, ◌≤◌, refl, sym, ap, arith, ◌∙◌, inl, inr, ◌⊎◌, true, false, ◌&&◌, nat_le, nat_lt}
use Rattle.std.proofs.lemmas.Bool.Decides.{nat_tests}
use Rattle.std.proofs.lemmas.Nat.{mod-pow-add, field_of}
use Rattle.std.specs.declared.boxed.Box.{Box}
use Rattle.descriptor.specs.Word.{desc_of}
use Rattle.page_state.specs.declared.entry.Entry.{Entry}
use Rattle.page_state.specs.declared.entry.Entry.TheVariants.{Malformed}
use Rattle.page_state.specs.Entries.{advance, entry_of_word}
use Rattle.page_state.specs.Geometries.{block_pages}
use Rattle.table_tree.specs.declared.table.Table.{Table}
use Rattle.table_tree.specs.declared.table.Slot.{Slot}
use Rattle.table_tree.specs.declared.table.Slot.TheVariants.{Word, Child}
use Rattle.table_tree.specs.Meaning.{level_at, index_at, slot_at, entry_at}
use Rattle.table_tree.specs.Slots.{slot_entry}
use Rattle.table_tree.proofs.Slots.{by_slot, case_child}
use Rattle.table_tree.proofs.Steps.{entry_step, word_gives, child_gives}
use Rattle.walk_plan.specs.declared.change.Change.{Change}
use Rattle.walk_plan.specs.Changes.{changed_entry}
use Rattle.walk_plan.proofs.Numbers.{place_small}

pub changed_inside : (d : ℕ) (m : ℕ → Entry) (c : Change) (q : ℕ)
    → q < block_pages d
    → c.first ≤ q
    → q < c.end
    → changed_entry d m c q ≡ advance c.entry (q - c.first)
changed_inside d m c q p l h =
    let e : q % block_pages d ≡ q = place_small d q p in
    let t : nat_le c.first q && nat_lt q c.end ≡ true = grind (arith, nat_tests) in
    rw (e, t) refl

pub changed_outside : (d : ℕ) (m : ℕ → Entry) (c : Change) (q : ℕ)
    → q < block_pages d
    → (q < c.first) ⊎ (c.end ≤ q)
    → changed_entry d m c q ≡ m q
changed_outside d m c q p h =
    let e : q % block_pages d ≡ q = place_small d q p in
    let t : nat_le c.first q && nat_lt q c.end ≡ false =
    elim h [ inl l ↦ before c.first c.end q l | inr u ↦ after c.first c.end q u ] in
    rw (e, t) refl
  where
    before : (f e q : ℕ) → q < f → nat_le f q && nat_lt q e ≡ false
    before f e q h = grind (arith, nat_tests)

    after : (f e q : ℕ) → e ≤ q → nat_le f q && nat_lt q e ≡ false
    after f e q h = grind (arith, nat_tests)

-- two pages that have one place in a block have one index in its table, and one place below
digits : (d q : ℕ) → q % block_pages (suc d) ≡ index_at d q * block_pages d + q % block_pages d
digits d q = let e : 9 * suc d ≡ 9 + 9 * d = omega arith in rw e (mod-pow-add q 9 (9 * d))

index_place : (d q : ℕ) → index_at d q ≡ q % block_pages (suc d) / block_pages d
index_place d q = let e : 9 * suc d ≡ 9 + 9 * d = omega arith in rw e (sym (field_of q 9 (9 * d)))

same_index : (d p q : ℕ) → p % block_pages (suc d) ≡ q % block_pages (suc d) → index_at d p ≡ index_at d q
same_index d p q h = index_place d p ∙ ap (λ z. z / block_pages d) h ∙ sym (index_place d q)

same_rest : (d p q : ℕ) → p % block_pages (suc d) ≡ q % block_pages (suc d) → p % block_pages d ≡ q % block_pages d
same_rest d p q h =
    let x = digits d p in
    let y = digits d q in
    let k = ap (λ i. i * block_pages d) (same_index d p q h) in
    omega (arith, x, y, k, h)

module _ {A : Type 0} where
  word_repeats : (d p q w : ℕ) (s : Slot A)
      → s ≡ Word w
      → p % block_pages d ≡ q % block_pages d
      → slot_entry d s p ≡ slot_entry d s q
  word_repeats d p q w s e h =
      word_gives d p w s e ∙ ap (λ z. advance (entry_of_word (desc_of (level_at d) w)) z) h ∙ sym (word_gives d q w s e)

  child_malformed : (b : Box (Table A) A) (s : Slot A) (q : ℕ) → s ≡ Child b → slot_entry 0 s q ≡ Malformed
  unfolding slot_entry
  child_malformed b s q e = rw e (case_child _ _ b)

  slot_repeats : (d p q : ℕ) (s : Slot A) → p % block_pages d ≡ q % block_pages d → slot_entry d s p ≡ slot_entry d s q
  slot_repeats zero p q s h =
      by_slot s (λ w e. word_repeats 0 p q w s e h) (λ b e. child_malformed b s p e ∙ sym (child_malformed b s q e))
  slot_repeats (suc d) p q s h =
      by_slot s
      (λ w e. word_repeats (suc d) p q w s e h)
      (λ b e.
      let t = b.value in
      child_gives (suc d) d p b s refl e ∙ entry_step d t p
      ∙ ap (λ i. slot_entry d (slot_at t i) p) (same_index d p q h)
      ∙ slot_repeats d p q (slot_at t (index_at d q)) (same_rest d p q h)
      ∙ sym (child_gives (suc d) d q b s refl e ∙ entry_step d t q))

  -- what a table gives a page depends on the page's place in the table's block alone
  pub entry_repeats : (d p q : ℕ) (t : Table A)
      → p % block_pages (suc d) ≡ q % block_pages (suc d)
      → entry_at d t p ≡ entry_at d t q
  entry_repeats d p q t h =
      entry_step d t p ∙ ap (λ i. slot_entry d (slot_at t i) p) (same_index d p q h)
      ∙ slot_repeats d p q (slot_at t (index_at d q)) (same_rest d p q h) ∙ sym (entry_step d t q)
