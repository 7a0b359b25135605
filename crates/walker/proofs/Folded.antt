-- What it means that a word can say a block after a change.
use Rattle.std.proofs.Common.{◌≡◌, ℕ, ◌+◌, ◌-◌, ◌*◌, ◌%◌, ◌^◌, ◌<◌, sym, ap, arith, ◌∙◌, true, false, inl, inr, nat_lt}
use Rattle.std.proofs.lemmas.Bool.Decides.{nat_tests}
use Rattle.std.proofs.Math.Nat.{mod-eq_of_lt}
use Rattle.page_state.specs.declared.entry.Entry.{Entry}
use Rattle.page_state.specs.Entries.{advance}
use Rattle.page_state.specs.EntryTests.{entry_eq}
use Rattle.page_state.specs.Search.{all_below}
use Rattle.page_state.specs.Geometries.{block_pages}
use Rattle.page_state.specs.Blocks.{fits_word, is_one_word}
use Rattle.page_state.specs.Map.{Map, update}
use Rattle.page_state.proofs.Blocks.{all_from-each, all_from-by, and-join}
use Rattle.page_state.proofs.Cases.{by_lt}
use Rattle.page_state.proofs.Common.{and-both}
use Rattle.page_state.proofs.Entries.{advance-none, entry_eq-same, entry_eq-self}
use Rattle.page_state.proofs.Sizes.{size_some}
use Rattle.page_state.proofs.Updates.{update_inside, update_outside}
use Rattle.walk_plan.specs.declared.change.Change.{Change}
use Rattle.walk_plan.specs.Changes.{IsChange, changed_entry, part, stays_one_word}
use Rattle.walk_plan.specs.inner.Ranks.{is_folded}
use Rattle.walk_plan.proofs.Numbers.{part_all}
use Rattle.walk_plan.proofs.OneWord.{IsMade, one_word_made, one_word_same}
use Rattle.walk_plan.proofs.Walked.{meets}
use Rattle.walker.proofs.Maps.{changed_in, changed_before, changed_after}

module _ (d : ℕ) (m : ℕ → Entry) (c : Change) where
  abbrev left : ℕ → Entry
  left = changed_entry d m c

  pub folded_fits : is_folded d m c ≡ true → fits_word d (left 0) ≡ true
  unfolding is_folded
  folded_fits h =
      (and-both (fits_word d (left 0)) (all_below (2 ^ (9 * d)) (λ i. entry_eq (left i) (advance (left 0) i))) h).0

  pub folded_each : is_folded d m c ≡ true → (q : ℕ) → q < 2 ^ (9 * d) → left q ≡ advance (left 0) q
  unfolding is_folded
  folded_each h q p =
      let all =
      (and-both (fits_word d (left 0))
      (all_below (2 ^ (9 * d)) (λ i. entry_eq (left i) (advance (left 0) i))) h).1 in
      entry_eq-same (left q) (advance (left 0) q)
      (all_from-each 0 (2 ^ (9 * d)) (λ i. entry_eq (left i) (advance (left 0) i)) all q (omega arith)
      (omega arith))

  pub folded_by : (x : Entry)
      → fits_word d x ≡ true
      → ((q : ℕ) → q < 2 ^ (9 * d) → left q ≡ advance x q)
      → is_folded d m c ≡ true
  unfolding is_folded
  folded_by x f h =
      let some = size_some d in
      let first : left 0 ≡ x = h 0 (omega (arith, some)) ∙ advance-none x in
      and-join (fits_word d (left 0)) (all_below (2 ^ (9 * d)) (λ i. entry_eq (left i) (advance (left 0) i)))
      (ap (fits_word d) first ∙ f)
      (all_from-by 0 (2 ^ (9 * d)) (λ i. entry_eq (left i) (advance (left 0) i))
      (λ i a b. let e : left i ≡ advance (left 0) i = h i (omega arith) ∙ ap (λ y. advance y i) (sym first) in
      rw e (entry_eq-self (advance (left 0) i))))

  -- what a split block has afterwards no word can say
  module _ (x : Entry) (change : IsChange d c) (fits : fits_word d x ≡ true)
      (old : (q : ℕ) → m q ≡ advance x (q % 2 ^ (9 * d))) where
    abbrev after : Map
    after = update m c.first (c.end - c.first) c.entry

    made : IsMade c m after
    made =
        let some = change.some in
        record {
          inside = λ q l u. update_inside m c.first (c.end - c.first) c.entry q l (omega arith);
          outside =
              λ q o. update_outside m c.first (c.end - c.first) c.entry q
              (elim o [ inl l ↦ inl l | inr u ↦ inr (omega arith) ]);
        }

    whole : part d 0 c ≡ c
    whole = part_all d c change.within

    met : meets c d 0 ≡ true
    met = let some = change.some in ap (λ (z : Change). nat_lt z.first z.end) whole ∙ (grind (arith, nat_tests))

    was : (i : ℕ) → i < block_pages d → m (0 * block_pages d + i) ≡ advance x i
    was i l = let z : 0 * block_pages d + i ≡ i = omega arith in ap m z ∙ old i ∙ ap (λ n. advance x n) (mod-eq_of_lt l)

    here : (i : ℕ) → i < block_pages d → after (0 * block_pages d + i) ≡ left i
    here i l =
        let s = block_pages d in
        let z : 0 * s + i ≡ i = omega arith in
        let k : i % s ≡ i = mod-eq_of_lt l in
        ap after z ∙ by_lt i c.first
        (λ a. made.outside i (inl a) ∙ sym (changed_before d m c i (omega (arith, k))))
        (λ a. by_lt i c.end
        (λ b. made.inside i a b ∙ ap (λ n. advance c.entry (n - c.first)) (sym k)
        ∙ sym (changed_in d m c i (omega (arith, k)) (omega (arith, k))))
        (λ b. made.outside i (inr b) ∙ sym (changed_after d m c i (omega (arith, k)))))

    pub split_not : stays_one_word d x c ≡ false → is_folded d m c ≡ true → ⊥
    split_not z h =
        let same : is_one_word after (d, 0) ≡ stays_one_word d x c =
        one_word_same c m after made d 0 x met fits was ∙ ap (λ y. stays_one_word d x y) whole in
        let one : is_one_word after (d, 0) ≡ true =
        one_word_made after d 0 (left 0) (folded_fits h) (λ i l. here i l ∙ folded_each h i l) in
        let bad : true ≡ false = sym one ∙ same ∙ z in
        cc
