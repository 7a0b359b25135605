use Rattle.std.proofs.Common.{◌≡◌, ℕ, zero, suc, ◌+◌, ◌-◌, ◌*◌, ◌^◌, ◌<◌, ◌≤◌, List, [], ◌∷◌, ◌++◌, length, get_or, refl, sym, ap, arith, ◌∙◌, sum_by, take, ◌==◌}
use Rattle.std.proofs.Math.ListN.{set}
use Rattle.std.proofs.lemmas.List.Sums.{sum_by-set, sum_by-append}
use Rattle.std.proofs.lemmas.List.{take_all, take_more}
use Rattle.std.specs.declared.boxed.Box.{Box}
use Rattle.descriptor.specs.declared.Frame.{Frame}
use Rattle.page_state.specs.Geometries.{levels_below}
use Rattle.page_state.specs.Counts.{is_one}
use Rattle.page_state.proofs.Cases.{by_test}
use Rattle.table_tree.specs.declared.tree.Tree.{Tree}
use Rattle.table_tree.specs.declared.table.Table.{Table}
use Rattle.table_tree.specs.declared.table.Slot.{Slot}
use Rattle.table_tree.specs.declared.table.Slot.TheVariants.{Word, Child}
use Rattle.table_tree.specs.Meaning.{slot_at, slots_of, frame_of}
use Rattle.table_tree.specs.Shape.{IsWide, HoldsWord}
use Rattle.table_tree.specs.Tables.{tables_in, uses_in, frame_times}
use Rattle.table_tree.specs.Slots.{slot_tables, slot_uses, fresh}
use Rattle.table_tree.specs.View.{tables_of}
use Rattle.table_tree.proofs.Slots.{case_word, case_child}

no_sum : {X : Type 0} (xs : List X) → sum_by (λ _. 0) xs ≡ 0
no_sum [] = refl
no_sum (x ∷ xs) = rw (no_sum xs) refl

zero_sum : {X : Type 0} (f : X → ℕ) (d : X) (xs : List X)
    → ((k : ℕ) → k < length xs → f (get_or xs k d) ≡ 0)
    → sum_by f xs ≡ 0
zero_sum f d [] h = refl
zero_sum f d (x ∷ xs) h = let z : f x ≡ 0 = h 0 (omega arith) in rw z (zero_sum f d xs (λ k p. h (suc k) (omega arith)))

-- the sum over one more slot
pub sum_more : {X : Type 0} (f : X → ℕ) (d : X) (xs : List X) (i : ℕ)
    → i < length xs
    → sum_by f (take (i + 1) xs) ≡ sum_by f (take i xs) + f (get_or xs i d)
sum_more f d xs i p = let e = sum_by-append f (take i xs) (get_or xs i d ∷ []) in
    rw (take_more xs i d p) (omega (arith, e))

pub one_most : (f g : ℕ) → is_one f g ≤ 1
one_most f g = by_test (f == g) (λ e. rw e (omega arith)) (λ e. rw e (omega arith))

pub count_none : (f : ℕ) (fs : List Frame) → fs ≡ [] → frame_times f fs ≡ 0
count_none f fs e = rw e refl

pub count_push : (f : ℕ) (fs gs : List Frame) (x : Frame)
    → gs ≡ fs ++ x ∷ []
    → frame_times f gs ≡ frame_times f fs + is_one x.0 f
count_push f fs gs x e = let z = sum_by-append (λ (g : Frame). is_one g.0 f) fs (x ∷ []) in rw e (omega (arith, z))

module _ {A : Type 0} where
  pub tables_step : (n : ℕ) (t : Table A) → tables_in n t ≡ 1 + sum_by (slot_tables n) (slots_of t)
  unfolding tables_in slot_tables
  tables_step zero t = let e = no_sum (slots_of t) in omega (arith, e)
  tables_step (suc n) t = refl

  pub uses_step : (n : ℕ) (t : Table A) (f : ℕ)
      → uses_in n t f ≡ is_one (frame_of t) f + sum_by (λ s. slot_uses n s f) (slots_of t)
  unfolding uses_in slot_uses
  uses_step zero t f = let e = no_sum (slots_of t) in omega (arith, e)
  uses_step (suc n) t f = refl

  pub tables_word : (n w : ℕ) (s : Slot A) → s ≡ Word w → slot_tables n s ≡ 0
  unfolding slot_tables
  tables_word zero w s e = refl
  tables_word (suc n) w s e = rw e (case_word _ _ w)

  pub tables_child : (n m : ℕ) (b : Box (Table A) A) (s : Slot A)
      → n ≡ suc m
      → s ≡ Child b
      → slot_tables n s ≡ tables_in m b.value
  unfolding slot_tables
  tables_child n m b s k e = rw (k, e) (case_child _ _ b)

  pub uses_word : (n w f : ℕ) (s : Slot A) → s ≡ Word w → slot_uses n s f ≡ 0
  unfolding slot_uses
  uses_word zero w f s e = refl
  uses_word (suc n) w f s e = rw e (case_word _ _ w)

  pub uses_child : (n m f : ℕ) (b : Box (Table A) A) (s : Slot A)
      → n ≡ suc m
      → s ≡ Child b
      → slot_uses n s f ≡ uses_in m b.value f
  unfolding slot_uses
  uses_child n m f b s k e = rw (k, e) (case_child _ _ b)

  pub fresh_word : (w : ℕ) (s : Slot A) → s ≡ Word w → fresh s ≡ 1
  unfolding fresh
  fresh_word w s e = rw e (case_word _ _ w)

  pub fresh_child : (b : Box (Table A) A) (s : Slot A) → s ≡ Child b → fresh s ≡ 0
  unfolding fresh
  fresh_child b s e = rw e (case_child _ _ b)

  -- tables of words
  pub words_tables : (n : ℕ) (t : Table A)
      → IsWide t
      → ((i : ℕ) → i < 512 → HoldsWord (slot_at t i))
      → tables_in n t ≡ 1
  words_tables n t e h = let z =
      zero_sum (slot_tables n) (Word 0) (slots_of t)
      (λ k p. let x = h k (omega (arith, e)) in tables_word n x.0 (slot_at t k) x.1) in
      omega (arith, z, tables_step n t)

  pub words_uses : (n : ℕ) (t : Table A) (f : ℕ)
      → IsWide t
      → ((i : ℕ) → i < 512 → HoldsWord (slot_at t i))
      → uses_in n t f ≡ is_one (frame_of t) f
  words_uses n t f e h = let z =
      zero_sum (λ s. slot_uses n s f) (Word 0) (slots_of t)
      (λ k p. let x = h k (omega (arith, e)) in uses_word n x.0 f (slot_at t k) x.1) in
      uses_step n t f ∙ rw z (omega arith)

  -- a slot is another one
  pub tables_set : (n i : ℕ) (t u : Table A) (s : Slot A)
      → IsWide t
      → i < 512
      → slots_of u ≡ set (slots_of t) i s
      → tables_in n u + slot_tables n (slot_at t i) ≡ tables_in n t + slot_tables n s
  tables_set n i t u s e p x =
      let y = sum_by-set (slot_tables n) (slots_of t) i s (Word 0) (omega (arith, e)) in
      let z : tables_in n u ≡ 1 + sum_by (slot_tables n) (set (slots_of t) i s) =
      tables_step n u ∙ ap (λ l. 1 + sum_by (slot_tables n) l) x in
      omega (arith, y, z, tables_step n t)

  pub uses_set : (n i f : ℕ) (t u : Table A) (s : Slot A)
      → frame_of u ≡ frame_of t
      → IsWide t
      → i < 512
      → slots_of u ≡ set (slots_of t) i s
      → uses_in n u f + slot_uses n (slot_at t i) f ≡ uses_in n t f + slot_uses n s f
  uses_set n i f t u s k e p x =
      let y = sum_by-set (λ a. slot_uses n a f) (slots_of t) i s (Word 0) (omega (arith, e)) in
      let z : uses_in n u f ≡ is_one (frame_of t) f + sum_by (λ a. slot_uses n a f) (set (slots_of t) i s) =
      uses_step n u f ∙ rw k (ap (λ l. is_one (frame_of t) f + sum_by (λ a. slot_uses n a f) l) x) in
      omega (arith, y, z, uses_step n t f)

  pub tables_zero : (n : ℕ) (t : Table A) → n ≡ 0 → tables_in n t ≡ 1
  unfolding tables_in
  tables_zero n t e = rw e refl

  pub uses_zero : (n : ℕ) (t : Table A) (f : ℕ) → n ≡ 0 → uses_in n t f ≡ is_one (frame_of t) f
  unfolding uses_in
  uses_zero n t f e = rw e refl

  tables_more : (n i : ℕ) (t : Table A)
      → IsWide t
      → i < 512
      → sum_by (slot_tables n) (take (i + 1) (slots_of t))
      ≡ sum_by (slot_tables n) (take i (slots_of t)) + slot_tables n (slot_at t i)
  tables_more n i t wide p = sum_more (slot_tables n) (Word 0) (slots_of t) i (omega (arith, wide))

  -- how often a frame is one of a table below the first slots
  pub uses_before : ℕ → ℕ → Table A → ℕ → ℕ
  uses_before n f t i = sum_by (λ s. slot_uses n s f) (take i (slots_of t))

  pub uses_start : (n f : ℕ) (t : Table A) → uses_before n f t 0 ≡ 0
  unfolding uses_before
  uses_start n f t = refl

  uses_more : (n i f : ℕ) (t : Table A)
      → IsWide t
      → i < 512
      → uses_before n f t (i + 1) ≡ uses_before n f t i + slot_uses n (slot_at t i) f
  unfolding uses_before
  uses_more n i f t wide p = sum_more (λ s. slot_uses n s f) (Word 0) (slots_of t) i (omega (arith, wide))

  pub tables_more_word : (n i w : ℕ) (t : Table A) (s : Slot A)
      → IsWide t
      → i < 512
      → s ≡ slot_at t i
      → s ≡ Word w
      → sum_by (slot_tables n) (take (i + 1) (slots_of t)) ≡ sum_by (slot_tables n) (take i (slots_of t))
  tables_more_word n i w t s wide p at e = let x = tables_more n i t wide p in
      let y = tables_word n w (slot_at t i) (sym at ∙ e) in
      omega (arith, x, y)

  pub tables_more_child : (n i : ℕ) (t : Table A) (b : Box (Table A) A) (s : Slot A)
      → 1 ≤ n
      → IsWide t
      → i < 512
      → s ≡ slot_at t i
      → s ≡ Child b
      → sum_by (slot_tables n) (take (i + 1) (slots_of t))
      ≡ sum_by (slot_tables n) (take i (slots_of t)) + tables_in (n - 1) b.value
  tables_more_child n i t b s k wide p at e = let x = tables_more n i t wide p in
      let y = tables_child n (n - 1) b (slot_at t i) (omega arith) (sym at ∙ e) in
      omega (arith, x, y)

  pub uses_more_word : (n i f w : ℕ) (t : Table A) (s : Slot A)
      → IsWide t
      → i < 512
      → s ≡ slot_at t i
      → s ≡ Word w
      → uses_before n f t (i + 1) ≡ uses_before n f t i
  uses_more_word n i f w t s wide p at e = let x = uses_more n i f t wide p in
      let y = uses_word n w f (slot_at t i) (sym at ∙ e) in
      omega (arith, x, y)

  pub uses_more_child : (n i f : ℕ) (t : Table A) (b : Box (Table A) A) (s : Slot A)
      → 1 ≤ n
      → IsWide t
      → i < 512
      → s ≡ slot_at t i
      → s ≡ Child b
      → uses_before n f t (i + 1) ≡ uses_before n f t i + uses_in (n - 1) b.value f
  uses_more_child n i f t b s k wide p at e = let x = uses_more n i f t wide p in
      let y = uses_child n (n - 1) f b (slot_at t i) (omega arith) (sym at ∙ e) in
      omega (arith, x, y)

  pub tables_all : (n i : ℕ) (t : Table A)
      → IsWide t
      → 512 ≤ i
      → 1 + sum_by (slot_tables n) (take i (slots_of t)) ≡ tables_in n t
  tables_all n i t wide p =
      ap (λ l. 1 + sum_by (slot_tables n) l) (take_all i (slots_of t) (omega (arith, wide))) ∙ sym (tables_step n t)

  pub uses_all : (n i f : ℕ) (t : Table A)
      → IsWide t
      → 512 ≤ i
      → is_one (frame_of t) f + uses_before n f t i ≡ uses_in n t f
  unfolding uses_before
  uses_all n i f t wide p =
      ap (λ l. is_one (frame_of t) f + sum_by (λ s. slot_uses n s f) l) (take_all i (slots_of t) (omega (arith, wide)))
      ∙ sym (uses_step n t f)

module _ {A : Type 0} where
  pub tables_some : (d : ℕ) (t : Table A) → 1 ≤ tables_in d t
  unfolding tables_in
  tables_some zero t = omega arith
  tables_some (suc d) t = omega arith

  -- a tree has its root
  pub tree_some : (t : Tree A) → 1 ≤ tables_of t
  unfolding tables_of
  tree_some t = tables_some (levels_below t.geometry) t.table

pub powers : (n : ℕ)
    → 1 ≤ n
    → n < 4
    → (1024 ^ n ≡ 1024 * 1024 ^ (n - 1)) × ((1 ≤ 1024 ^ (n - 1)) × (1024 ^ (n - 1) ≤ 1048576))
powers zero p q = absurd (omega arith)
powers (suc zero) p q = (omega arith, (omega arith, omega arith))
powers (suc (suc zero)) p q = (omega arith, (omega arith, omega arith))
powers (suc (suc (suc zero))) p q = (omega arith, (omega arith, omega arith))
powers (suc (suc (suc (suc n)))) p q = absurd (omega arith)
