-- The frames of a tree's tables, counted in the tree and by its blocks.
use Rattle.std.proofs.Common.{◌≡◌, ℕ, zero, suc, ◌+◌, ◌-◌, ◌≤◌, ◌<◌, ◌==◌, refl, sym, ap, ◌∙◌, arith, add-one, Bool, true, false, cond, List, [], ◌∷◌, ◌++◌, length, filter, filter_map, Option, Some, None, is_some, if◌then◌else◌}
use Rattle.std.specs.List.{cons_option}
use Rattle.std.proofs.lemmas.List.Sums.{sum_by-append}
use Rattle.std.specs.declared.boxed.Box.{Box}
use Rattle.page_state.specs.Counts.{frame_count, is_one}
use Rattle.page_state.specs.Geometries.{levels_below}
use Rattle.page_state.proofs.Counts.{count_next}
use Rattle.reference_model.specs.help.Conditions.{table_uses}
use Rattle.reference_model.specs.model.Owner.{count_blocks, is_frame}
use Rattle.table_tree.specs.AllBlocks.{all_blocks}
use Rattle.table_tree.specs.declared.table.Table.{Table}
use Rattle.table_tree.specs.declared.table.Slot.TheVariants.{Child}
use Rattle.table_tree.specs.declared.tree.Tree.{Tree}
use Rattle.table_tree.specs.Meaning.{slot_at, frame_of}
use Rattle.table_tree.specs.Shape.{IsShaped}
use Rattle.table_tree.specs.Tables.{all_frames_in, uses_in}
use Rattle.table_tree.specs.View.{uses, tables_of, tree_of}
use Rattle.table_tree.proofs.AllFrames.{frames_before, frames_start, frames_more_word, frames_more_child, frames_all, frames_last, tree_frames, tree_count}
use Rattle.table_tree.proofs.Same.{uses_are}
use Rattle.table_tree.proofs.Slots.{by_slot, shaped_wide, shaped_slot, child_shaped}
use Rattle.table_tree.proofs.Sums.{uses_before, uses_start, uses_more_word, uses_more_child, uses_all, uses_zero}
use Rattle.guest_component.proofs.Blocks.{blocks_counted}

count_append : (f : ℕ) (xs ys : List ℕ) → frame_count f (xs ++ ys) ≡ frame_count f xs + frame_count f ys
count_append f xs ys = sum_by-append (λ g. is_one g f) xs ys

kept_if : {X : Type 0} (b : Bool) (n : ℕ) (x : X) (zs : List X)
    → n ≡ length zs
    → (if b then 1 else 0) + n ≡ length (cond b (x ∷ zs) zs)
kept_if true n x zs e = omega (arith, e)
kept_if false n x zs e = omega (arith, e)

-- as often as elements have it
kept_one : {X : Type 0} (f : ℕ) (o : Option ℕ) (x : X) (ys : List ℕ) (zs : List X)
    → frame_count f ys ≡ length zs
    → frame_count f (cons_option o ys) ≡ length (cond (is_frame f o) (x ∷ zs) zs)
kept_one f None x ys zs e = e
kept_one f (Some g) x ys zs e = count_next f g ys ∙ kept_if (g == f) (frame_count f ys) x zs e

kept_count : {X : Type 0} (f : ℕ) (h : X → Option ℕ) (xs : List X)
    → frame_count f (filter_map h xs) ≡ length (filter (λ x. is_frame f (h x)) xs)
kept_count f h [] = refl
kept_count f h (x ∷ xs) = kept_one f (h x) x (filter_map h xs) (filter (λ y. is_frame f (h y)) xs) (kept_count f h xs)

module _ {A : Type 0} (f : ℕ) where
  -- in the tables below the first slots
  used_before : (d : ℕ) (t : Table A)
      → IsShaped d t
      → 1 ≤ d
      → ((i : ℕ) (b : Box (Table A) A)
      → i < 512
      → slot_at t i ≡ Child b
      → frame_count f (all_frames_in (d - 1) b.value) ≡ uses_in (d - 1) b.value f)
      → (n : ℕ) → n ≤ 512 → frame_count f (frames_before d t n) ≡ uses_before d f t n
  used_before d t shape some h zero less = ap (frame_count f) (frames_start d t) ∙ sym (uses_start d f t)
  used_before d t shape some h (suc n) less =
      let wide = shaped_wide d t shape in
      let old = used_before d t shape some h n (omega (arith, less)) in
      let p : n < 512 = omega (arith, less) in
      let next : frame_count f (frames_before d t (n + 1)) ≡ uses_before d f t (n + 1) = by_slot (slot_at t n)
      (λ w e. ap (frame_count f) (frames_more_word d n w t (slot_at t n) refl e) ∙ old
      ∙ sym (uses_more_word d n f w t (slot_at t n) wide p refl e))
      (λ b e.
      let a =
      ap (frame_count f) (frames_more_child d n t b (slot_at t n) some refl e)
      ∙ count_append f (frames_before d t n) (all_frames_in (d - 1) b.value) in
      let k = uses_more_child d n f t b (slot_at t n) some wide p refl e in
      omega (arith, a, k, old, h n b p e)) in
      rw add-one at next

  -- in all tables
  used_in : (d : ℕ) (t : Table A) → IsShaped d t → frame_count f (all_frames_in d t) ≡ uses_in d t f
  used_in zero t shape = let e = ap (frame_count f) (frames_last zero t refl) ∙ count_next f (frame_of t) [] in
      omega (arith, e, uses_zero zero t f refl)
  used_in (suc d) t shape =
      let less : suc d - 1 ≡ d = omega arith in
      let below =
      used_before (suc d) t shape (omega arith)
      (λ i b p e. rw less
      (used_in d b.value (child_shaped d b (slot_at t i) (shaped_slot (suc d) t i shape p) e))) 512
      (omega arith) in
      let e =
      ap (frame_count f) (sym (frames_all (suc d) 512 t (omega arith) (omega arith)))
      ∙ count_next f (frame_of t) (frames_before (suc d) t 512) in
      omega (arith, below, e, uses_all (suc d) 512 f t (shaped_wide (suc d) t shape) (omega arith))

-- a frame is as often a table's as blocks have it
pub uses_counted : {A : Type 0} (t : Tree A) (f : ℕ) → table_uses (levels_below t.geometry) (tree_of t) f ≡ uses t f
unfolding table_uses
uses_counted t f =
    let d = levels_below t.geometry in
    sym (blocks_counted (λ b. is_frame f ((tree_of t).table b)) (d + 1))
    ∙ sym (kept_count f (tree_of t).table (all_blocks t.geometry)) ∙ ap (frame_count f) (tree_frames t)
    ∙ used_in f d t.table t.shaped ∙ sym (uses_are t f)

-- and there are as many tables as blocks that have one
pub tables_counted : {A : Type 0} (t : Tree A)
    → count_blocks (levels_below t.geometry + 1) (levels_below t.geometry + 1) (λ b. is_some ((tree_of t).table b))
    ≡ tables_of t
tables_counted t =
    sym (blocks_counted (λ b. is_some ((tree_of t).table b)) (levels_below t.geometry + 1)) ∙ sym (tree_count t)
