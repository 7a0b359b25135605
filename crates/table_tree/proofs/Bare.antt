-- Blocks on which nothing is mapped, told by one look at each level.
use Rattle.std.proofs.Common.{◌≡◌, ℕ, suc, ◌+◌, ◌-◌, ◌*◌, ◌/◌, ◌%◌, ◌^◌, ◌<◌, ◌≤◌, ◌==◌, ◌↔◌, IsTrue, refl, sym, ap, subst, arith, ◌∙◌, Bool, true, Some, None}
use Rattle.std.proofs.lemmas.Bool.Decides.{nat_tests}
use Rattle.std.proofs.lemmas.Nat.{div-mul-add}
use Rattle.std.proofs.Math.Nat.{div-div-eq-div-mul}
use Rattle.std.specs.declared.boxed.Box.{Box}
use Rattle.page_state.specs.Blocks.{block_at, is_empty}
use Rattle.page_state.specs.Geometries.{levels_below, block_pages}
use Rattle.page_state.proofs.Blocks.{empty_means}
use Rattle.page_state.proofs.Common.{same-tests}
use Rattle.page_state.proofs.Sizes.{size_some, size_add}
use Rattle.table_tree.specs.declared.table.Table.{Table}
use Rattle.table_tree.specs.declared.table.Slot.{Slot}
use Rattle.table_tree.specs.declared.table.Slot.TheVariants.{Word, Child}
use Rattle.table_tree.specs.declared.tree.Tree.{Tree}
use Rattle.table_tree.specs.Bare.{IsBare}
use Rattle.table_tree.specs.Meaning.{level_at, index_at, slot_at, frame_of, entry_at}
use Rattle.table_tree.specs.Shape.{IsShaped}
use Rattle.table_tree.specs.Tight.{IsTight}
use Rattle.table_tree.specs.Tables.{table_in}
use Rattle.table_tree.specs.View.{meaning}
use Rattle.table_tree.proofs.OneWord.{advance_none, entry_word, unmapped_gone}
use Rattle.table_tree.proofs.NoneWord.{none_word}
use Rattle.table_tree.proofs.Standing.{table_below, table_top, stand_child}
use Rattle.table_tree.proofs.Steps.{entry_step, child_gives}
use Rattle.table_tree.proofs.Tight.{tight_child}
use Rattle.table_tree.proofs.Views.{meaning_in, meaning_over}
use Rattle.table_tree.proofs.Words.{zero_entry}

-- the pages of a block are one page of each greater one
same_above : (n d p q : ℕ) → d ≤ n → p / block_pages d ≡ q / block_pages d → p / block_pages n ≡ q / block_pages n
same_above n d p q l e =
    let x : n ≡ d + (n - d) = omega arith in
    let s : block_pages n ≡ block_pages d * block_pages (n - d) = ap block_pages x ∙ size_add d (n - d) in
    rw (
      s,
      sym (div-div-eq-div-mul p (block_pages d) (block_pages (n - d))),
      sym (div-div-eq-div-mul q (block_pages d) (block_pages (n - d))),
      e,
    ) refl

same_index : (n d p q : ℕ) → d ≤ n → p / block_pages d ≡ q / block_pages d → index_at n p ≡ index_at n q
same_index n d p q l e = ap (λ x. x % 512) (same_above n d p q l e)

module _ {A : Type 0} where
  -- no table below a child is empty
  pub child_tight : (n i : ℕ) (t : Table A) (b : Box (Table A) A) (s : Slot A)
      → 1 ≤ n
      → IsTight n t
      → i < 512
      → s ≡ slot_at t i
      → s ≡ Child b
      → IsTight (n - 1) b.value
  child_tight n i t b s k tight p y e =
      (tight_child (n - 1) t i b (subst (λ d. IsTight d t) (let x : n ≡ suc (n - 1) = omega arith in x) tight) p
      (sym y ∙ e)).1

  -- a word maps nothing where it is 0
  pub bare_word : (n d q i w : ℕ) (t : Table A) (s : Slot A) (r : Bool)
      → d ≤ n
      → i ≡ index_at n q
      → s ≡ slot_at t i
      → s ≡ Word w
      → r ≡ (w == 0)
      → IsTrue r ↔ IsBare n t d q
  bare_word n d q i w t s r l x y e f =
      let here : slot_at t (index_at n q) ≡ Word w = rw (sym x) (sym y ∙ e) in (
        λ k p o.
            let z : w ≡ 0 = grind (arith, nat_tests) in
            let there : slot_at t (index_at n p) ≡ Word 0 = rw (same_index n d p q l o) (rw z at here) in
            entry_word n t p 0 there ∙ zero_entry n p,
        λ h.
            let z : w ≡ 0 =
            none_word (level_at n) w
            (advance_none _ (q % 2 ^ (9 * n)) (sym (entry_word n t q w here) ∙ h q refl)) in
            grind (arith, nat_tests),
      )

  -- a table at the block maps something: it isn't empty
  pub bare_table : (n q i : ℕ) (t : Table A) (b : Box (Table A) A) (s : Slot A)
      → 1 ≤ n
      → IsShaped n t
      → IsTight n t
      → i ≡ index_at n q
      → s ≡ slot_at t i
      → s ≡ Child b
      → IsBare n t n q
      → ⊥
  bare_table n q i t b s k shape tight x y e h =
      let here : slot_at t (index_at n q) ≡ Child b = rw (sym x) (sym y ∙ e) in
      let o : n ≡ n - 1 + 1 = omega arith in
      let gone : table_in n t (n - 1) q ≡ None =
      unmapped_gone n t (n - 1) q shape tight (omega arith) (λ p w. h p (rw (sym o) at w)) in
      let stands : table_in n t (n - 1) q ≡ Some (frame_of b.value) =
      table_below n (n - 1) t q (λ (z : n - 1 ≡ n). omega arith)
      ∙ stand_child n (n - 1) (n - 1) q b (slot_at t (index_at n q)) (omega arith) here
      ∙ table_top (n - 1) (n - 1) b.value q refl in
      absurd (cc)

  -- a child says it of a block of its own
  pub bare_child : (n d q i : ℕ) (t : Table A) (b : Box (Table A) A) (s : Slot A) (r : Bool)
      → d < n
      → i ≡ index_at n q
      → s ≡ slot_at t i
      → s ≡ Child b
      → IsTrue r ↔ IsBare (n - 1) b.value d q
      → IsTrue r ↔ IsBare n t d q
  bare_child n d q i t b s r l x y e h =
      let here : slot_at t (index_at n q) ≡ Child b = rw (sym x) (sym y ∙ e) in
      let below : (p : ℕ) → p / block_pages d ≡ q / block_pages d → entry_at n t p ≡ entry_at (n - 1) b.value p = λ p o.
      let there : slot_at t (index_at n p) ≡ Child b = rw (same_index n d p q (omega arith) o) here in
      entry_step n t p ∙ child_gives n (n - 1) p b (slot_at t (index_at n p)) (omega arith) there in
      (λ k p o. below p o ∙ h.0 k p o, λ g. h.1 (λ p o. sym (below p o) ∙ g p o))

  -- a block of the input pages
  pub bare_inside : (t : Tree A) (n d q : ℕ) (r : Bool)
      → n ≡ levels_below t.geometry
      → d ≤ n
      → q / 2 ^ (9 * (n + 1)) ≡ 0
      → IsTrue r ↔ IsBare n t.table d q
      → r ≡ is_empty (meaning t) (block_at d q)
  bare_inside t n d q r e l z h =
      let s = block_pages d in
      let some = size_some d in
      let m = empty_means (meaning t) (block_at d q) in
      let said : (p : ℕ) → p / block_pages d ≡ q / block_pages d → entry_at n t.table p ≡ meaning t p =
      λ p o. meaning_in t n p e (same_above (n + 1) d p q (omega arith) o ∙ z) in
      same-tests r (is_empty (meaning t) (block_at d q))
      (λ k. m.1 (λ i less.
      let o = div-mul-add (q / s) s i less in
      sym (said (q / s * s + i) o) ∙ h.0 k (q / s * s + i) o))
      (λ k. h.1 (λ p o.
      let less : p % s < s = omega (arith, some) in
      let is : q / s * s + p % s ≡ p = omega (arith, ap (λ x. x * s) o) in
      said p o ∙ ap (meaning t) (sym is) ∙ m.0 k (p % s) less))

  -- a block past them
  pub bare_outside : (t : Tree A) (n d q : ℕ)
      → n ≡ levels_below t.geometry
      → d ≤ n
      → (q / 2 ^ (9 * (n + 1)) ≡ 0 → ⊥)
      → true ≡ is_empty (meaning t) (block_at d q)
  bare_outside t n d q e l z =
      let s = block_pages d in
      sym ((empty_means (meaning t) (block_at d q)).1 (λ i less.
      let o = div-mul-add (q / s) s i less in
      sym
      (meaning_over t n (q / s * s + i) e
      (λ k. z (sym (same_above (n + 1) d (q / s * s + i) q (omega arith) o) ∙ k)))))
