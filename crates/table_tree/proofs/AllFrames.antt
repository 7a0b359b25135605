-- The frames of a tree's tables, by slots and by blocks.
use Rattle.std.proofs.Common.{◌≡◌, ℕ, zero, suc, ◌+◌, ◌-◌, ◌*◌, ◌/◌, ◌<◌, ◌≤◌, refl, sym, ap, arith, ◌∙◌, cond, List, [], ◌∷◌, ◌++◌, length, length-append, map, filter, filter_map, slice_get, take, Option, Some, None, is_some, sum_by, add-one}
use Rattle.std.specs.List.{cons_option}
use Rattle.std.proofs.lemmas.List.{append-nil, append_assoc, map-append, take_all}
use Rattle.std.proofs.lemmas.Nat.{div-mul-add}
use Rattle.std.proofs.Math.Nat.{div-div-eq-div-mul, div-lt_iff_lt-mul}
use Rattle.std.specs.declared.boxed.Box.{Box}
use Rattle.descriptor.specs.declared.Frame.{Frame}
use Rattle.page_state.specs.Trees.{Block}
use Rattle.page_state.specs.Geometries.{levels_below, input_pages, block_pages}
use Rattle.page_state.proofs.Sizes.{size_some, size_step}
use Rattle.table_tree.specs.declared.table.Table.{Table}
use Rattle.table_tree.specs.declared.table.Slot.{Slot}
use Rattle.table_tree.specs.declared.table.Slot.TheVariants.{Word, Child}
use Rattle.table_tree.specs.declared.tree.Tree.{Tree}
use Rattle.table_tree.specs.AllBlocks.{gathered, blocks_in, all_blocks, table_count, table_frames}
use Rattle.table_tree.specs.Meaning.{index_at, slot_at, slots_of, frame_of}
use Rattle.table_tree.specs.Shape.{IsWide, IsShaped}
use Rattle.table_tree.specs.Slots.{IsSlot, slot_frames, slot_tables, slot_table}
use Rattle.table_tree.specs.Tables.{tables_in, all_frames_in, table_in}
use Rattle.table_tree.specs.View.{table_at, tables_of, root_of, tree_of}
use Rattle.table_tree.proofs.Slots.{by_slot, case_word, case_child, shaped_wide, shaped_slot, slot_child_is, child_shaped}
use Rattle.table_tree.proofs.Joined.{joined_start, joined_more, joined_none, joined_same, filter_map_joined}
use Rattle.table_tree.proofs.Standing.{table_top, table_below, stand_word, stand_child}
use Rattle.table_tree.proofs.Paths.{table_same}
use Rattle.table_tree.proofs.Sums.{sum_more, tables_step, tables_word, tables_child}
use Rattle.table_tree.proofs.Said.{table_at_in}

-- the numbers of frames with one more, and with more behind them
pub pushed : (fs gs : List Frame) (x : Frame) (n : ℕ)
    → gs ≡ fs ++ x ∷ []
    → x.0 ≡ n
    → map (λ (f : Frame). f.0) gs ≡ map (λ (f : Frame). f.0) fs ++ n ∷ []
pushed fs gs x n e k =
    ap (map (λ (f : Frame). f.0)) e ∙ map-append (λ (f : Frame). f.0) fs (x ∷ [])
    ∙ ap (λ m. map (λ (f : Frame). f.0) fs ++ m ∷ []) k

pub joined_on : (olds before more all now : List ℕ) (n : ℕ)
    → now ≡ olds ++ n ∷ before
    → all ≡ before ++ more
    → now ++ more ≡ olds ++ n ∷ all
joined_on olds before more all now n e k =
    ap (λ xs. xs ++ more) e ∙ append_assoc olds (n ∷ before) more ∙ ap (λ xs. olds ++ n ∷ xs) (sym k)

-- as many values as elements that have one
kept_one : {X : Type 0} (o : Option ℕ) (x : X) (ys : List ℕ) (zs : List X)
    → length zs ≡ length ys
    → length (cond (is_some o) (x ∷ zs) zs) ≡ length (cons_option o ys)
kept_one None x ys zs e = e
kept_one (Some f) x ys zs e = ap (λ n. suc n) e

pub kept_length : {X : Type 0} (h : X → Option ℕ) (xs : List X)
    → length (filter (λ x. is_some (h x)) xs) ≡ length (filter_map h xs)
kept_length h [] = refl
kept_length h (x ∷ xs) = kept_one (h x) x (filter_map h xs) (filter (λ y. is_some (h y)) xs) (kept_length h xs)

div_mul : (s q : ℕ) → 1 ≤ s → q / s * s ≤ q
div_mul s q h = omega arith

module _ {A : Type 0} where
  pub frames_step : (n : ℕ) (t : Table A)
      → all_frames_in n t ≡ frame_of t ∷ gathered (λ i. slot_frames n (slot_at t i)) 512
  unfolding all_frames_in slot_frames
  frames_step zero t = ap (λ xs. frame_of t ∷ xs) (sym (joined_none (λ _. []) 512 (λ i p. refl)))
  frames_step (suc n) t = refl

  pub frames_word : (n w : ℕ) (s : Slot A) → s ≡ Word w → slot_frames n s ≡ []
  unfolding slot_frames
  frames_word zero w s e = refl
  frames_word (suc n) w s e = rw e (case_word _ _ w)

  no_frames : (s : Slot A) → slot_frames 0 s ≡ []
  unfolding slot_frames
  no_frames s = refl

  pub frames_child : (n m : ℕ) (b : Box (Table A) A) (s : Slot A)
      → n ≡ suc m
      → s ≡ Child b
      → slot_frames n s ≡ all_frames_in m b.value
  unfolding slot_frames
  frames_child n m b s k e = rw (k, e) (case_child _ _ b)

  pub frames_last : (n : ℕ) (t : Table A) → n ≡ 0 → all_frames_in n t ≡ frame_of t ∷ []
  unfolding all_frames_in
  frames_last n t e = rw e refl

  -- the frames below the first slots
  pub frames_before : ℕ → Table A → ℕ → List ℕ
  frames_before n t i = gathered (λ j. slot_frames n (slot_at t j)) i

  pub frames_start : (n : ℕ) (t : Table A) → frames_before n t 0 ≡ []
  unfolding frames_before
  frames_start n t = joined_start (λ j. slot_frames n (slot_at t j))

  pub frames_more_word : (n i w : ℕ) (t : Table A) (s : Slot A)
      → s ≡ slot_at t i
      → s ≡ Word w
      → frames_before n t (i + 1) ≡ frames_before n t i
  unfolding frames_before
  frames_more_word n i w t s at e =
      joined_more (λ j. slot_frames n (slot_at t j)) i
      ∙ ap (λ xs. frames_before n t i ++ xs) (frames_word n w (slot_at t i) (sym at ∙ e))
      ∙ append-nil (frames_before n t i)

  pub frames_more_child : (n i : ℕ) (t : Table A) (b : Box (Table A) A) (s : Slot A)
      → 1 ≤ n
      → s ≡ slot_at t i
      → s ≡ Child b
      → frames_before n t (i + 1) ≡ frames_before n t i ++ all_frames_in (n - 1) b.value
  unfolding frames_before
  frames_more_child n i t b s k at e =
      joined_more (λ j. slot_frames n (slot_at t j)) i
      ∙ ap (λ xs. frames_before n t i ++ xs) (frames_child n (n - 1) b (slot_at t i) (omega arith) (sym at ∙ e))

  pub frames_all : (n i : ℕ) (t : Table A) → i ≤ 512 → 512 ≤ i → frame_of t ∷ frames_before n t i ≡ all_frames_in n t
  unfolding frames_before
  frames_all n i t p q = let e : i ≡ 512 = omega arith in
      ap (λ k. frame_of t ∷ gathered (λ j. slot_frames n (slot_at t j)) k) e ∙ sym (frames_step n t)

  no_child : (b : Box (Table A) A) (s : Slot A) → IsSlot 0 s → s ≡ Child b → ⊥
  no_child b s h e = let x = (slot_child_is 0 b s h e).0 in omega arith

  -- there are as many as tables
  slots_counted : (d n : ℕ) (t : Table A)
      → IsWide t
      → n ≤ 512
      → ((i : ℕ) → i < n → length (slot_frames d (slot_at t i)) ≡ slot_tables d (slot_at t i))
      → length (frames_before d t n) ≡ sum_by (slot_tables d) (take n (slots_of t))
  unfolding frames_before
  slots_counted d zero t wide p h = ap length (joined_start (λ j. slot_frames d (slot_at t j)))
  slots_counted d (suc n) t wide p h =
      let more = joined_more (λ j. slot_frames d (slot_at t j)) n in
      let here : length (gathered (λ j. slot_frames d (slot_at t j)) (n + 1)) ≡ length (frames_before d t n) + length (slot_frames d (slot_at t n)) =
      ap length more
      ∙ length-append (gathered (λ j. slot_frames d (slot_at t j)) n) (slot_frames d (slot_at t n)) in
      let there = sum_more (slot_tables d) (Word 0) (slots_of t) n (omega (arith, wide)) in
      let old = slots_counted d n t wide (omega arith) (λ i l. h i (omega arith)) in
      let one = h n (omega arith) in
      let last : length (gathered (λ j. slot_frames d (slot_at t j)) (n + 1)) ≡ sum_by (slot_tables d) (take (n + 1) (slots_of t)) =
      omega (arith, here, there, old, one) in
      rw add-one at last

  counted : (d : ℕ) (t : Table A)
      → IsWide t
      → ((i : ℕ) → i < 512 → length (slot_frames d (slot_at t i)) ≡ slot_tables d (slot_at t i))
      → length (all_frames_in d t) ≡ tables_in d t
  counted d t wide h =
      let all = slots_counted d 512 t wide (omega arith) h in
      let front : sum_by (slot_tables d) (take 512 (slots_of t)) ≡ sum_by (slot_tables d) (slots_of t) =
      ap (sum_by (slot_tables d)) (take_all 512 (slots_of t) (omega (arith, wide))) in
      let step : length (all_frames_in d t) ≡ suc (length (frames_before d t 512)) =
      ap length (sym (frames_all d 512 t (omega arith) (omega arith))) in
      omega (arith, all, front, step, tables_step d t)

  pub frames_counted : (d : ℕ) (t : Table A) → IsShaped d t → length (all_frames_in d t) ≡ tables_in d t
  frames_counted zero t h =
      counted zero t (shaped_wide zero t h) (λ i p. by_slot (slot_at t i)
      (λ w e. ap length (frames_word zero w (slot_at t i) e) ∙ sym (tables_word zero w (slot_at t i) e))
      (λ b e. absurd (no_child b (slot_at t i) (shaped_slot zero t i h p) e)))
  frames_counted (suc d) t h =
      counted (suc d) t (shaped_wide (suc d) t h) (λ i p. by_slot (slot_at t i)
      (λ w e. ap length (frames_word (suc d) w (slot_at t i) e) ∙ sym (tables_word (suc d) w (slot_at t i) e))
      (λ b e. ap length (frames_child (suc d) d b (slot_at t i) refl e)
      ∙ frames_counted d b.value (child_shaped d b (slot_at t i) (shaped_slot (suc d) t i h p) e)
      ∙ sym (tables_child (suc d) d b (slot_at t i) refl e)))

-- blocks and pages

own : (d b : ℕ) → (b * block_pages d + 0) / block_pages d ≡ b
own d b = div-mul-add b (block_pages d) 0 (size_some d)

up : (d q b i : ℕ) → i < 512 → q / block_pages d ≡ 512 * b + i → q / block_pages (suc d) ≡ b
up d q b i p e =
    let size : block_pages (suc d) ≡ block_pages d * 512 = let x = size_step d in omega (arith, x) in
    let over : (512 * b + i) / 512 ≡ b = omega arith in
    ap (λ n. q / n) size ∙ sym (div-div-eq-div-mul q (block_pages d) 512) ∙ ap (λ n. n / 512) e ∙ over

-- no table stands in a block
abbrev IsBare : (Block → Option ℕ) → ℕ → ℕ → Type 0
IsBare ts d b = (low q : ℕ) → low < d → q / block_pages d ≡ b → ts (suc low, q / block_pages (suc low)) ≡ None

bare_frames : (ts : Block → Option ℕ) (d b : ℕ) → IsBare ts d b → filter_map ts (blocks_in d b) ≡ []
unfolding blocks_in
bare_frames ts zero b h = refl
bare_frames ts (suc d) b h =
    let here : ts (suc d, b) ≡ None =
    ap (λ n. ts (suc d, n)) (sym (own (suc d) b))
    ∙ h d (b * block_pages (suc d) + 0) (omega arith) (own (suc d) b) in
    let part =
    λ (i : ℕ) (p : i < 512). bare_frames ts d (512 * b + i) (λ low q l e. h low q (omega arith) (up d q b i p e)) in
    let rest : filter_map ts (gathered (λ i. blocks_in d (512 * b + i)) 512) ≡ [] =
    filter_map_joined ts (λ i. blocks_in d (512 * b + i)) 512
    ∙ joined_none (λ i. filter_map ts (blocks_in d (512 * b + i))) 512 part in
    ap (λ o. cons_option o (filter_map ts (gathered (λ i. blocks_in d (512 * b + i)) 512))) here ∙ rest

module _ {A : Type 0} where
  -- a slot shows the tables in a block
  abbrev IsSlotOf : (Block → Option ℕ) → ℕ → ℕ → Slot A → Type 0
  IsSlotOf ts d b s =
      (low q : ℕ) → low < d → q / block_pages d ≡ b → ts (suc low, q / block_pages (suc low)) ≡ slot_table d s low q

  -- a table shows those of its block
  abbrev IsTableOf : (Block → Option ℕ) → ℕ → ℕ → Table A → Type 0
  IsTableOf ts d b t =
      (low q : ℕ)
      → low < suc d
      → q / block_pages (suc d) ≡ b
      → ts (suc low, q / block_pages (suc low)) ≡ table_in d t low q

  slot_of : (ts : Block → Option ℕ) (d b i : ℕ) (t : Table A)
      → i < 512
      → IsTableOf ts d b t
      → IsSlotOf ts d (512 * b + i) (slot_at t i)
  slot_of ts d b i t p h low q l e =
      let index : index_at d q ≡ i = rw e (omega arith) in
      h low q (omega arith) (up d q b i p e) ∙ table_below d low t q (λ z. omega arith)
      ∙ ap (λ j. slot_table d (slot_at t j) low q) index

  table_of : (ts : Block → Option ℕ) (d b : ℕ) (t : Table A)
      → IsTableOf ts d b t
      → ((i : ℕ) → i < 512 → filter_map ts (blocks_in d (512 * b + i)) ≡ slot_frames d (slot_at t i))
      → filter_map ts (blocks_in (suc d) b) ≡ all_frames_in d t
  unfolding blocks_in
  table_of ts d b t h parts =
      let here : ts (suc d, b) ≡ Some (frame_of t) =
      ap (λ n. ts (suc d, n)) (sym (own (suc d) b))
      ∙ h d (b * block_pages (suc d) + 0) (omega arith) (own (suc d) b)
      ∙ table_top d d t (b * block_pages (suc d) + 0) refl in
      let rest : filter_map ts (gathered (λ i. blocks_in d (512 * b + i)) 512) ≡ gathered (λ i. slot_frames d (slot_at t i)) 512 =
      filter_map_joined ts (λ i. blocks_in d (512 * b + i)) 512
      ∙ joined_same (λ i. filter_map ts (blocks_in d (512 * b + i))) (λ i. slot_frames d (slot_at t i)) 512 parts in
      ap (λ o. cons_option o (filter_map ts (gathered (λ i. blocks_in d (512 * b + i)) 512))) here
      ∙ ap (λ xs. frame_of t ∷ xs) rest ∙ sym (frames_step d t)

  slot_shown : (ts : Block → Option ℕ) (d b : ℕ) (s : Slot A)
      → IsSlotOf ts d b s
      → filter_map ts (blocks_in d b) ≡ slot_frames d s
  slot_shown ts zero b s h = bare_frames ts zero b (λ low q l e. absurd (omega arith)) ∙ sym (no_frames s)
  slot_shown ts (suc d) b s h = by_slot s
      (λ w e. bare_frames ts (suc d) b (λ low q l x. h low q l x ∙ stand_word (suc d) w low q s e)
      ∙ sym (frames_word (suc d) w s e))
      (λ c e.
      let inner : IsTableOf ts d b c.value = λ low q l x. h low q l x ∙ stand_child (suc d) d low q c s refl e in
      table_of ts d b c.value inner
      (λ i p. slot_shown ts d (512 * b + i) (slot_at c.value i) (slot_of ts d b i c.value p inner))
      ∙ sym (frames_child (suc d) d c s refl e))

  table_shown : (ts : Block → Option ℕ) (d b : ℕ) (t : Table A)
      → IsTableOf ts d b t
      → filter_map ts (blocks_in (suc d) b) ≡ all_frames_in d t
  table_shown ts d b t h =
      table_of ts d b t h (λ i p. slot_shown ts d (512 * b + i) (slot_at t i) (slot_of ts d b i t p h))

  -- the blocks of a tree
  tree_shows : (t : Tree A) → IsTableOf (λ b. table_at t b.0 b.1) (levels_below t.geometry) 0 t.table
  tree_shows t low q l e =
      let s = size_some (suc low) in
      let n = levels_below t.geometry in
      let whole : q < 1 * block_pages (suc n) = (div-lt_iff_lt-mul (size_some (suc n))).0 (omega arith) in
      let below : q / block_pages (suc low) * block_pages (suc low) ≤ q = div_mul (block_pages (suc low)) q s in
      let inside : q / block_pages (suc low) * block_pages (suc low) < input_pages t.geometry =
      rw add-one (omega arith) in
      let first : (q / block_pages (suc low) * block_pages (suc low) + 0) / block_pages (suc low) ≡ q / block_pages (suc low) =
      div-mul-add (q / block_pages (suc low)) (block_pages (suc low)) 0 s in
      let plain : q / block_pages (suc low) * block_pages (suc low) ≡ q / block_pages (suc low) * block_pages (suc low) + 0 =
      omega arith in
      let one : suc low ≡ low + 1 = omega arith in
      table_at_in t (suc low) low (q / block_pages (suc low)) refl inside
      ∙ table_same n low (q / block_pages (suc low) * block_pages (suc low)) q t.table (omega arith)
      (ap (λ k. q / block_pages (suc low) * block_pages (suc low) / block_pages k) (sym one)
      ∙ ap (λ k. k / block_pages (suc low)) plain ∙ first ∙ ap (λ k. q / block_pages k) one)

  pub tree_frames : (t : Tree A) → table_frames t.geometry (tree_of t) ≡ all_frames_in (levels_below t.geometry) t.table
  tree_frames t = rw add-one (table_shown (λ b. table_at t b.0 b.1) (levels_below t.geometry) 0 t.table (tree_shows t))

  pub tree_count : (t : Tree A) → tables_of t ≡ table_count t.geometry (tree_of t)
  unfolding tables_of
  tree_count t =
      sym
      (kept_length (λ b. table_at t b.0 b.1) (all_blocks t.geometry) ∙ ap length (tree_frames t)
      ∙ frames_counted (levels_below t.geometry) t.table t.shaped)

  -- the root stands at the block of all pages
  pub root_stands : (t : Tree A) → (tree_of t).table (levels_below t.geometry + 1, 0) ≡ Some (root_of t)
  unfolding root_of
  root_stands t =
      let n = levels_below t.geometry in
      let x =
      tree_shows t n (0 * block_pages (suc n) + 0) (omega arith) (own (suc n) 0)
      ∙ table_top n n t.table (0 * block_pages (suc n) + 0) refl in
      let one : n + 1 ≡ suc n = omega arith in
      ap (λ k. table_at t k 0) one ∙ ap (λ k. table_at t (suc n) k) (sym (own (suc n) 0)) ∙ x

  pub root_first : (t : Tree A) → slice_get (table_frames t.geometry (tree_of t)) 0 ≡ Some (root_of t)
  unfolding root_of
  root_first t = rw (tree_frames t, frames_step (levels_below t.geometry) t.table) refl
