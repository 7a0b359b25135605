-- The tables that a walk finds, by slots and by blocks.
use Rattle.std.proofs.Common.{◌≡◌, ℕ, zero, suc, ◌+◌, ◌-◌, ◌*◌, ◌/◌, ◌<◌, ◌≤◌, refl, sym, ap, arith, ◌∙◌, cond, ltb, true, false, List, [], ◌∷◌, ◌++◌, Some, None, add-zero}
use Rattle.std.proofs.lemmas.List.{append-nil}
use Rattle.std.proofs.lemmas.Nat.{div-mul-add}
use Rattle.std.proofs.lemmas.Bool.Decides.{nat_tests}
use Rattle.std.proofs.Math.Nat.{div-div-eq-div-mul, div-eq_of_lt, div-lt_iff_lt-mul}
use Rattle.std.specs.declared.boxed.Box.{Box}
use Rattle.page_state.specs.declared.layout.Geometry.{Geometry}
use Rattle.page_state.specs.Blocks.{block_eq}
use Rattle.page_state.specs.Geometries.{levels_below, input_pages, block_pages}
use Rattle.page_state.specs.Trees.{Block}
use Rattle.page_state.proofs.Cases.{by_eq, by_lt, by_test}
use Rattle.page_state.proofs.Common.{eq-made, eq-other}
use Rattle.page_state.proofs.Sizes.{size_some, size_step}
use Rattle.table_tree.specs.declared.table.Table.{Table}
use Rattle.table_tree.specs.declared.table.Slot.{Slot}
use Rattle.table_tree.specs.declared.table.Slot.TheVariants.{Word, Child}
use Rattle.table_tree.specs.AllBlocks.{gathered}
use Rattle.table_tree.specs.Meaning.{index_at, slot_at, frame_of, slot_case}
use Rattle.table_tree.specs.Slots.{slot_table}
use Rattle.table_tree.specs.Tables.{table_in}
use Rattle.table_tree.proofs.Digits.{index_small}
use Rattle.table_tree.proofs.Joined.{joined_start, joined_more, joined_none}
use Rattle.table_tree.proofs.Slots.{by_slot, case_word, case_child}
use Rattle.table_tree.proofs.Standing.{table_top, table_below, stand_word, stand_child}
use Rattle.ghost_trees.specs.declared.tree.Table.{Table as FoundTable}
use Rattle.ghost_trees.specs.Trees.{table_of}
use Rattle.table_tree.specs.Roots.{table_under}
use Rattle.ghost_oracle.specs.inner.Walking.{found_at, found_under}

-- the table at a block in lists put together

none_first : (xs ys : List FoundTable) (b : Block) → table_of xs b ≡ None → table_of (xs ++ ys) b ≡ table_of ys b
none_first [] ys b e = refl
none_first (x ∷ xs) ys b e = by_test (block_eq x.block b)
    (λ h. let no_table : Some x.frame ≡ None = rw h at e in absurd (cc))
    (λ h. rw h (none_first xs ys b (rw h at e)))

none_second : (xs ys : List FoundTable) (b : Block) → table_of ys b ≡ None → table_of (xs ++ ys) b ≡ table_of xs b
none_second [] ys b e = e
none_second (x ∷ xs) ys b e = ap (λ o. cond (block_eq x.block b) (Some x.frame) o) (none_second xs ys b e)

none_joined : (f : ℕ → List FoundTable) (n : ℕ) (b : Block)
    → ((i : ℕ) → i < n → table_of (f i) b ≡ None)
    → table_of (gathered f n) b ≡ None
unfolding gathered
none_joined f zero b h = refl
none_joined f (suc n) b h =
    none_second (gathered f n) (f n) b (h n (omega arith)) ∙ none_joined f n b (λ i l. h i (omega arith))

one_joined : (f : ℕ → List FoundTable) (n j : ℕ) (b : Block)
    → j < n
    → ((i : ℕ) → i < n → (i ≡ j → ⊥) → table_of (f i) b ≡ None)
    → table_of (gathered f n) b ≡ table_of (f j) b
unfolding gathered
one_joined f zero j b l h = absurd (omega arith)
one_joined f (suc n) j b l h = by_eq n j
    (λ e. none_first (gathered f n) (f n) b (none_joined f n b (λ i k. h i (omega arith) (λ z. omega arith)))
    ∙ ap (λ i. table_of (f i) b) e)
    (λ e. none_second (gathered f n) (f n) b (h n (omega arith) e)
    ∙ one_joined f n j b (omega arith) (λ i k z. h i (omega arith) z))

none_of : (xs : List FoundTable) (b : Block) → xs ≡ [] → table_of xs b ≡ None
none_of xs b e = rw e refl

-- blocks and (page_at low k)s

-- the first page of a block
abbrev page_at : ℕ → ℕ → ℕ
page_at low k = k * block_pages (suc low)

own : (d k : ℕ) → k * block_pages d / block_pages d ≡ k
own d k =
    ap (λ n. n / block_pages d) (sym (add-zero (k * block_pages d))) ∙ div-mul-add k (block_pages d) 0 (size_some d)

up : (d q b i : ℕ) → i < 512 → q / block_pages d ≡ b * 512 + i → q / block_pages (suc d) ≡ b
up d q b i p e =
    let size : block_pages (suc d) ≡ block_pages d * 512 = let x = size_step d in omega (arith, x) in
    let over : (b * 512 + i) / 512 ≡ b = omega arith in
    ap (λ n. q / n) size ∙ sym (div-div-eq-div-mul q (block_pages d) 512) ∙ ap (λ n. n / 512) e ∙ over

down : (d q b : ℕ) → q / block_pages (suc d) ≡ b → q / block_pages d ≡ b * 512 + index_at d q
down d q b e =
    let size : block_pages (suc d) ≡ block_pages d * 512 = let x = size_step d in omega (arith, x) in
    let over : q / block_pages d / 512 ≡ b =
    div-div-eq-div-mul q (block_pages d) 512 ∙ sym (ap (λ n. q / n) size) ∙ e in
    omega (arith, over)

one_more : (d : ℕ) → suc d ≡ d + 1
one_more d = omega arith

zero_quotient : (q d : ℕ) → q / block_pages (suc d) ≡ 0 → q < block_pages (d + 1)
zero_quotient q d e = let h = size_some (suc d) in
    let x : q < 1 * block_pages (suc d) = (div-lt_iff_lt-mul h).0 (omega (arith, e)) in
    rw (sym (one_more d)) (omega (arith, x))

first_inside : (d low k : ℕ) → k ≡ 0 → k * block_pages (suc low) < block_pages (d + 1)
first_inside d low k e = let x = size_some (d + 1) in rw e (omega (arith, x))

less_test : (p q : ℕ) → p < q → ltb p q ≡ true
less_test p q h = grind (arith, nat_tests)

more_test : (p q : ℕ) → q ≤ p → ltb p q ≡ false
more_test p q h = grind (arith, nat_tests)

not_depth : (d low n k : ℕ) → (low ≡ d → ⊥) → block_eq (d + 1, n) (suc low, k) ≡ false
not_depth d low n k h = rw (eq-other (d + 1) (suc low) (λ e. h (omega arith))) refl

this_block : (d low n k : ℕ) → low ≡ d → n ≡ k → block_eq (d + 1, n) (suc low, k) ≡ true
this_block d low n k h e = rw (eq-made (d + 1) (suc low) (omega arith), eq-made n k e) refl

other_block : (d low n k : ℕ) → (low ≡ d → n ≡ k → ⊥) → block_eq (d + 1, n) (suc low, k) ≡ false
other_block d low n k h = by_eq low d
    (λ e. rw (eq-made (d + 1) (suc low) (omega arith), eq-other n k (h e)) refl)
    (λ e. not_depth d low n k e)

no_block : (d n k : ℕ) → block_eq (d + 1, n) (zero, k) ≡ false
no_block d n k = rw (eq-other (d + 1) zero (λ e. omega arith)) refl

module _ {A : Type 0} where
  -- the tables below a slot
  unfoldable pub found_below : ℕ → ℕ → Slot A → List FoundTable
  found_below zero number s = []
  found_below (suc depth) number s = slot_case (λ _. []) (found_under depth number) s

  below_word : (d n w : ℕ) (s : Slot A) → s ≡ Word w → found_below d n s ≡ []
  unfolding found_below
  below_word zero n w s e = refl
  below_word (suc d) n w s e = rw e (case_word _ _ w)

  below_child : (d m n : ℕ) (b : Box (Table A) A) (s : Slot A)
      → d ≡ suc m
      → s ≡ Child b
      → found_below d n s ≡ found_under m n b.value
  unfolding found_below
  below_child d m n b s k e = rw (k, e) (case_child _ _ b)

  below_none : (n : ℕ) (s : Slot A) → found_below 0 n s ≡ []
  unfolding found_below
  below_none n s = refl

  no_slot : (s : Slot A) (low q : ℕ) → slot_table 0 s low q ≡ None
  unfolding slot_table
  no_slot s low q = refl

  found_step : (d n : ℕ) (t : Table A)
      → found_under d n t ≡ found_at d n t ∷ gathered (λ i. found_below d (n * 512 + i) (slot_at t i)) 512
  unfolding found_under found_below
  found_step zero n t = ap (λ xs. found_at zero n t ∷ xs) (sym (joined_none (λ _. []) 512 (λ i p. refl)))
  found_step (suc d) n t = refl

  -- as a walk goes on: the tables below the first slots
  unfoldable pub found_before : ℕ → ℕ → Table A → ℕ → List FoundTable
  found_before d n t i = gathered (λ j. found_below d (n * 512 + j) (slot_at t j)) i

  pub before_start : (d n : ℕ) (t : Table A) → found_before d n t 0 ≡ []
  unfolding found_before
  before_start d n t = joined_start (λ j. found_below d (n * 512 + j) (slot_at t j))

  pub before_word : (d n i w : ℕ) (t : Table A) (s : Slot A)
      → s ≡ slot_at t i
      → s ≡ Word w
      → found_before d n t (i + 1) ≡ found_before d n t i
  unfolding found_before
  before_word d n i w t s at e =
      joined_more (λ j. found_below d (n * 512 + j) (slot_at t j)) i
      ∙ ap (λ xs. found_before d n t i ++ xs) (below_word d (n * 512 + i) w (slot_at t i) (sym at ∙ e))
      ∙ append-nil (found_before d n t i)

  pub before_child : (d n i : ℕ) (t : Table A) (b : Box (Table A) A) (s : Slot A)
      → 1 ≤ d
      → s ≡ slot_at t i
      → s ≡ Child b
      → found_before d n t (i + 1) ≡ found_before d n t i ++ found_under (d - 1) (n * 512 + i) b.value
  unfolding found_before
  before_child d n i t b s k at e =
      joined_more (λ j. found_below d (n * 512 + j) (slot_at t j)) i
      ∙ ap (λ xs. found_before d n t i ++ xs)
      (below_child d (d - 1) (n * 512 + i) b (slot_at t i) (omega arith) (sym at ∙ e))

  pub before_all : (d n i : ℕ) (t : Table A)
      → i ≤ 512
      → 512 ≤ i
      → found_at d n t ∷ found_before d n t i ≡ found_under d n t
  unfolding found_before
  before_all d n i t p q = let e : i ≡ 512 = omega arith in
      ap (λ k. found_at d n t ∷ gathered (λ j. found_below d (n * 512 + j) (slot_at t j)) k) e ∙ sym (found_step d n t)

  pub pushed_table : (d n f : ℕ) (t : Table A) (old xs : List FoundTable)
      → xs ≡ old ++ record { block = (d + 1, n); frame = f } ∷ []
      → f ≡ frame_of t
      → xs ≡ old ++ found_at d n t ∷ found_before d n t 0
  pushed_table d n f t old xs e h =
      e ∙ ap (λ (g : ℕ). old ++ record { block = (d + 1, n); frame = g } ∷ []) h
      ∙ ap (λ ys. old ++ found_at d n t ∷ ys) (sym (before_start d n t))

  -- no table where the list can't have one
  none_step : (d n : ℕ) (t : Table A) (b : Block)
      → block_eq (d + 1, n) b ≡ false
      → ((i : ℕ) → i < 512 → table_of (found_below d (n * 512 + i) (slot_at t i)) b ≡ None)
      → table_of (found_under d n t) b ≡ None
  none_step d n t b e h =
      ap (λ xs. table_of xs b) (found_step d n t)
      ∙ ap
      (λ x. cond x (Some (frame_of t))
      (table_of (gathered (λ i. found_below d (n * 512 + i) (slot_at t i)) 512) b)) e
      ∙ none_joined (λ i. found_below d (n * 512 + i) (slot_at t i)) 512 b h

  zero_below : (d n k : ℕ) (s : Slot A) → table_of (found_below d n s) (zero, k) ≡ None
  zero_below zero n k s = none_of (found_below zero n s) (zero, k) (below_none n s)
  zero_below (suc d) n k s = by_slot s
      (λ w e. none_of (found_below (suc d) n s) (zero, k) (below_word (suc d) n w s e))
      (λ c e. ap (λ xs. table_of xs (zero, k)) (below_child (suc d) d n c s refl e)
      ∙ none_step d n c.value (zero, k) (no_block d n k) (λ i l. zero_below d (n * 512 + i) k (slot_at c.value i)))

  module _ (low k : ℕ) where
    -- beside the block of the slot
    none_below : (d n : ℕ) (s : Slot A)
        → (page_at low k / block_pages d ≡ n → ⊥)
        → table_of (found_below d n s) (suc low, k) ≡ None
    none_below zero n s h = none_of (found_below zero n s) (suc low, k) (below_none n s)
    none_below (suc d) n s h = by_slot s
        (λ w e. none_of (found_below (suc d) n s) (suc low, k) (below_word (suc d) n w s e))
        (λ c e.
        let apart : block_eq (d + 1, n) (suc low, k) ≡ false =
        other_block d low n k
        (λ z y. h
        (ap (λ m. k * block_pages (suc low) / block_pages (suc m)) (sym z) ∙ own (suc low) k ∙ sym y)) in
        ap (λ xs. table_of xs (suc low, k)) (below_child (suc d) d n c s refl e)
        ∙ none_step d n c.value (suc low, k) apart
        (λ i l. none_below d (n * 512 + i) (slot_at c.value i) (λ z. h (up d (page_at low k) n i l z))))

    -- in the block of a table
    some_step : (d n : ℕ) (t : Table A)
        → page_at low k / block_pages (suc d) ≡ n
        → ((i : ℕ)
        → page_at low k / block_pages d ≡ n * 512 + i
        → table_of (found_below d (n * 512 + i) (slot_at t i)) (suc low, k)
        ≡ slot_table d (slot_at t i) low (page_at low k))
        → table_of (found_under d n t) (suc low, k) ≡ table_in d t low (page_at low k)
    some_step d n t e h = by_eq low d
        (λ z.
        let same : n ≡ k =
        sym e ∙ ap (λ m. k * block_pages (suc low) / block_pages (suc m)) (sym z) ∙ own (suc low) k in
        ap (λ xs. table_of xs (suc low, k)) (found_step d n t)
        ∙ ap
        (λ x. cond x (Some (frame_of t))
        (table_of (gathered (λ i. found_below d (n * 512 + i) (slot_at t i)) 512) (suc low, k)))
        (this_block d low n k z same)
        ∙ sym (table_top d low t (page_at low k) z))
        (λ z.
        let j : ℕ = index_at d (page_at low k) in
        let part = down d (page_at low k) n e in
        ap (λ xs. table_of xs (suc low, k)) (found_step d n t)
        ∙ ap
        (λ x. cond x (Some (frame_of t))
        (table_of (gathered (λ i. found_below d (n * 512 + i) (slot_at t i)) 512) (suc low, k)))
        (not_depth d low n k z)
        ∙ one_joined (λ i. found_below d (n * 512 + i) (slot_at t i)) 512 (index_at d (page_at low k)) (suc low, k)
        (index_small d (page_at low k))
        (λ i l y. none_below d (n * 512 + i) (slot_at t i) (λ x. y (omega (arith, x, part))))
        ∙ h (index_at d (page_at low k)) part ∙ sym (table_below d low t (page_at low k) z))

    some_below : (d n : ℕ) (s : Slot A)
        → page_at low k / block_pages d ≡ n
        → table_of (found_below d n s) (suc low, k) ≡ slot_table d s low (page_at low k)
    some_below zero n s e =
        none_of (found_below zero n s) (suc low, k) (below_none n s) ∙ sym (no_slot s low (page_at low k))
    some_below (suc d) n s e = by_slot s
        (λ w f. none_of (found_below (suc d) n s) (suc low, k) (below_word (suc d) n w s f)
        ∙ sym (stand_word (suc d) w low (page_at low k) s f))
        (λ c f. ap (λ xs. table_of xs (suc low, k)) (below_child (suc d) d n c s refl f)
        ∙ some_step d n c.value e (λ i y. some_below d (n * 512 + i) (slot_at c.value i) y)
        ∙ sym (stand_child (suc d) d low (page_at low k) c s refl f))

  -- from the root
  found_some : (d : ℕ) (t : Table A) (low k : ℕ)
      → page_at low k < block_pages (d + 1)
      → table_of (found_under d 0 t) (suc low, k) ≡ table_in d t low (page_at low k)
  found_some d t low k l =
      some_step low k d 0 t (ap (λ m. page_at low k / block_pages m) (one_more d) ∙ div-eq_of_lt l)
      (λ i y. some_below low k d (0 * 512 + i) (slot_at t i) y)

  found_none : (d : ℕ) (t : Table A) (low k : ℕ)
      → (page_at low k < block_pages (d + 1) → ⊥)
      → table_of (found_under d 0 t) (suc low, k) ≡ None
  found_none d t low k h =
      let apart : block_eq (d + 1, 0) (suc low, k) ≡ false =
      other_block d low 0 k (λ z y. h (first_inside d low k (sym y))) in
      none_step d 0 t (suc low, k) apart
      (λ i l. none_below low k d (0 * 512 + i) (slot_at t i)
      (λ z. h (zero_quotient (page_at low k) d (up d (page_at low k) 0 i l z))))

  pub found_tables : (g : Geometry) (t : Table A) (b : Block)
      → table_of (found_under (levels_below g) 0 t) b ≡ table_under g t b.0 b.1
  unfolding table_under
  found_tables g t (zero, k) =
      none_step (levels_below g) 0 t (zero, k) (no_block (levels_below g) 0 k)
      (λ i l. zero_below (levels_below g) (0 * 512 + i) k (slot_at t i))
  found_tables g t (suc low, k) = by_lt (page_at low k) (input_pages g)
      (λ l. found_some (levels_below g) t low k l
      ∙ sym
      (ap (λ b. cond b (table_in (levels_below g) t low (page_at low k)) None)
      (less_test (page_at low k) (input_pages g) l)))
      (λ l. found_none (levels_below g) t low k (λ z. omega arith)
      ∙ sym
      (ap (λ b. cond b (table_in (levels_below g) t low (page_at low k)) None)
      (more_test (page_at low k) (input_pages g) l)))
