-- The frames of tables that a change's walk takes out are those that come back.
use Rattle.std.proofs.Common.{◌≡◌, ℕ, zero, suc, ◌+◌, ◌-◌, ◌*◌, ◌%◌, ◌<◌, ◌≤◌, refl, sym, ap, arith, ◌∙◌, inl, inr, Bool, true, false, ◌&&◌, cond, is_some, Option, Some, List, [], ◌∷◌, filter, filter_map}
use Rattle.std.specs.declared.boxed.Box.{Box}
use Rattle.std.proofs.lemmas.List.Elements.{filter_map-append}
use Rattle.std.proofs.lemmas.List.Sums.{sum_by-append}
use Rattle.descriptor.specs.Word.{desc_of}
use Rattle.page_state.specs.declared.entry.Entry.{Entry}
use Rattle.page_state.specs.Entries.{advance, entry_of_word}
use Rattle.page_state.specs.EntryTests.{entry_eq}
use Rattle.page_state.specs.Search.{all_from}
use Rattle.page_state.specs.Map.{Map, update}
use Rattle.page_state.specs.Trees.{Block}
use Rattle.page_state.specs.Blocks.{fits_word, is_one_word}
use Rattle.page_state.specs.Tables.{put, freed, returned}
use Rattle.page_state.specs.Geometries.{levels_below, input_pages, block_pages}
use Rattle.page_state.specs.Counts.{is_one, frame_count}
use Rattle.page_state.proofs.Cases.{by_test, by_lt}
use Rattle.page_state.proofs.Common.{same2}
use Rattle.page_state.proofs.Sizes.{size_some}
use Rattle.table_tree.specs.declared.table.Table.{Table}
use Rattle.table_tree.specs.declared.table.Slot.{Slot}
use Rattle.table_tree.specs.declared.table.Slot.TheVariants.{Word, Child}
use Rattle.table_tree.specs.declared.tree.Tree.{Tree}
use Rattle.table_tree.specs.Meaning.{level_at, slot_at, entry_at, frame_of}
use Rattle.table_tree.specs.Shape.{IsShaped}
use Rattle.table_tree.specs.Tables.{table_in}
use Rattle.table_tree.specs.Slots.{IsSlot, slot_entry, slot_table}
use Rattle.table_tree.specs.View.{meaning, table_at, tree_of}
use Rattle.table_tree.proofs.Slots.{by_slot, case_word, case_child, shaped_slot, child_shaped}
use Rattle.walk_plan.specs.declared.change.Change.{Change}
use Rattle.walk_plan.specs.Changes.{part, changed_entry}
use Rattle.walk_plan.specs.inner.Needs.{sum_to, met}
use Rattle.walk_plan.specs.inner.Ranks.{is_folded, slot_gone, gone_parts, table_gone}
use Rattle.walk_plan.proofs.Numbers.{place_in, place_small}
use Rattle.table_tree.specs.AllBlocks.{gathered}
use Rattle.table_tree.proofs.Joined.{joined_none}
use Rattle.walk_plan.proofs.Joined.{sum_same, filter_joined}
use Rattle.walk_plan.proofs.Walked.{meets, under, under_page, under_met, under_unmet}
use Rattle.walk_plan.proofs.OneWord.{IsMade, made_inside, made_outside}
use Rattle.walk_plan.proofs.Matched.{Matches, IsBare, bare_part, bare_here, match_slot, match_child, child_here, match_word, match_tree}
use Rattle.walk_plan.proofs.OfTree.{made_tree, blocks_tree, whole_part}
use Rattle.walk_plan.proofs.Needed.{met_part}
use Rattle.walk_plan.proofs.Changed.{changed_inside, changed_outside, entry_repeats}
use Rattle.walk_plan.proofs.Cleared.{is_freed, bare_not}

-- tests of all numbers below a bound

all_same : (from k : ℕ) (p q : ℕ → Bool)
    → ((i : ℕ) → from ≤ i → i < from + k → p i ≡ q i)
    → all_from from k p ≡ all_from from k q
all_same from zero p q h = refl
all_same from (suc k) p q h =
    let here : p from ≡ q from = h from (omega arith) (omega arith) in
    let more : all_from (suc from) k p ≡ all_from (suc from) k q =
    all_same (suc from) k p q (λ i a b. h i (omega arith) (omega arith)) in
    ap (λ t. elim t as (λ _. Bool) [ true ↦ all_from (suc from) k p | false ↦ false ]) here
    ∙ ap (λ r. elim (q from) as (λ _. Bool) [ true ↦ r | false ↦ false ]) more

-- the frames of the blocks that lose their table, counted
module _ (c : Change) (n : Map) (ts : Block → Option ℕ) (f : ℕ) where
  abbrev pub lost : ℕ → ℕ → List Block
  lost d b = filter (is_freed ts n) (under c d b)

  abbrev pub lost_below : ℕ → ℕ → List Block
  lost_below d b = gathered (λ i. lost d (512 * b + i)) 512

  abbrev pub frames : List Block → ℕ
  frames bs = frame_count f (filter_map ts bs)

  frames_joined : (g : ℕ → List Block) (k : ℕ) → frames (gathered g k) ≡ sum_to (λ i. frames (g i)) k
  unfolding gathered sum_to
  frames_joined g zero = refl
  frames_joined g (suc k) =
      ap (frame_count f) (filter_map-append ts (gathered g k) (g k))
      ∙ sum_by-append (λ (x : ℕ). is_one x f) (filter_map ts (gathered g k)) (filter_map ts (g k))
      ∙ ap (λ z. z + frames (g k)) (frames_joined g k)

  frames_below : (d b : ℕ) (g : ℕ → Change → ℕ)
      → ((i : ℕ)
      → i < 512
      → frames (lost d (512 * b + i)) ≡ cond (meets c d (512 * b + i)) (g i (part d (512 * b + i) c)) 0)
      → frames (lost_below d b) ≡ sum_to (met d (part (suc d) b c) g) 512
  frames_below d b g h =
      frames_joined (λ i. lost d (512 * b + i)) 512
      ∙ sum_same (λ i. frames (lost d (512 * b + i))) (met d (part (suc d) b c) g) 512
      (λ i p. h i p ∙ sym (met_part d b i c g p))

  lost_page : (b : ℕ) → lost 0 b ≡ []
  lost_page b = ap (filter (is_freed ts n)) (under_page c b)

  lost_unmet : (d b : ℕ) → meets c d b ≡ false → lost d b ≡ []
  lost_unmet d b h = ap (filter (is_freed ts n)) (under_unmet c d b h)

  lost_met : (d b : ℕ) (t : Bool)
      → meets c (suc d) b ≡ true
      → is_freed ts n (suc d, b) ≡ t
      → lost (suc d) b ≡ cond t ((suc d, b) ∷ lost_below d b) (lost_below d b)
  lost_met d b t h e =
      ap (filter (is_freed ts n)) (under_met c d b h)
      ∙ ap (λ xs. cond (is_freed ts n (suc d, b)) ((suc d, b) ∷ xs) xs)
      (filter_joined (is_freed ts n) (λ i. under c d (512 * b + i)) 512)
      ∙ ap (λ t. cond t ((suc d, b) ∷ lost_below d b) (lost_below d b)) e

  -- a block without a table loses none, nor does one below it
  bare_lost : (m : Map) (d b : ℕ) (x : Entry) → IsBare m ts d b x → lost d b ≡ []
  bare_lost m zero b x h = lost_page b
  bare_lost m (suc d) b x h =
      by_test (meets c (suc d) b)
      (λ t. lost_met d b false t (bare_not ts n (suc d, b) (bare_here m ts d b x h))
      ∙ joined_none (λ i. lost d (512 * b + i)) 512
      (λ i p. bare_lost m d (512 * b + i) (advance x (i * block_pages d)) (bare_part m ts d b i x p h)))
      (lost_unmet (suc d) b)

  frames_none : (bs : List Block) (t : Bool) → bs ≡ [] → frames bs ≡ cond t 0 0
  frames_none bs true h = ap frames h
  frames_none bs false h = ap frames h

  frames_unmet : (d b k : ℕ) → meets c d b ≡ false → frames (lost d b) ≡ cond (meets c d b) k 0
  frames_unmet d b k h = ap frames (lost_unmet d b h) ∙ ap (λ t. cond t k 0) (sym h)

  -- a table, and those below it
  frames_head : (d b g : ℕ) (t : Bool)
      → ts (suc d, b) ≡ Some g
      → frames (cond t ((suc d, b) ∷ lost_below d b) (lost_below d b)) ≡ frames (lost_below d b) + cond t (is_one g f) 0
  frames_head d b g true h = let k = sum_by-append (λ (x : ℕ). is_one x f) (g ∷ []) (filter_map ts (lost_below d b)) in
      rw h (omega (arith, k))
  frames_head d b g false h = omega arith

-- the test of a walk is that of the block
module _ {A : Type 0} (c : Change) (m n : Map) (ts : Block → Option ℕ) (made : IsMade c m n) where
  entry_after : (d b i : ℕ) (t : Table A)
      → Matches m ts d (suc d) b (entry_at d t) (table_in d t)
      → i < block_pages (suc d)
      → n (b * block_pages (suc d) + i) ≡ changed_entry (suc d) (entry_at d t) (part (suc d) b c) i
  entry_after d b i t h p =
      let s = block_pages (suc d) in
      let from : b * s ≤ b * s + i = omega arith in
      let to : b * s + i < b * s + s = omega arith in
      let gap : b * s + i - b * s ≡ i = omega arith in
      let at : (b * s + i) % s ≡ i % s = place_in (suc d) b (b * s + i) from to ∙ gap ∙ sym (place_small (suc d) i p) in
      let c' = part (suc d) b c in
      let old : m (b * s + i) ≡ entry_at d t i = h.map (b * s + i) from to ∙ entry_repeats d (b * s + i) i t at in
      by_lt i c'.first
      (λ l. made_outside c m n made (suc d) b i p (inl l) ∙ old
      ∙ sym (changed_outside (suc d) (entry_at d t) c' i p (inl l)))
      (λ l. by_lt i c'.end
      (λ r. made_inside c m n made (suc d) b i l r ∙ sym (changed_inside (suc d) (entry_at d t) c' i p l r))
      (λ r. made_outside c m n made (suc d) b i p (inr r) ∙ old
      ∙ sym (changed_outside (suc d) (entry_at d t) c' i p (inr r))))

  folded_after : (d b : ℕ) (t : Table A)
      → Matches m ts d (suc d) b (entry_at d t) (table_in d t)
      → is_one_word n (suc d, b) ≡ is_folded (suc d) (entry_at d t) (part (suc d) b c)
  unfolding is_one_word is_folded
  folded_after d b t h =
      let s = block_pages (suc d) in
      let x = changed_entry (suc d) (entry_at d t) (part (suc d) b c) in
      let some = size_some (suc d) in
      let z : b * s + 0 ≡ b * s = omega arith in
      let first : n (b * s) ≡ x 0 = ap n (sym z) ∙ entry_after d b 0 t h (omega (arith, some)) in
      same2 (λ (p q : Bool). p && q) (ap (fits_word (suc d)) first)
      (all_same 0 s (λ i. entry_eq (n (b * s + i)) (advance (n (b * s)) i)) (λ i. entry_eq (x i) (advance (x 0) i))
      (λ i l u. let p : i < s = omega arith in
      same2 entry_eq (entry_after d b i t h p) (ap (λ e. advance e i) first)))

  gone_word : (d w : ℕ) (s : Slot A) (z : Change) (f : ℕ) → s ≡ Word w → slot_gone (suc d) s z f ≡ 0
  unfolding slot_gone
  gone_word d w s z f e = rw e (case_word _ _ w)

  gone_child : (d : ℕ) (x : Box (Table A) A) (s : Slot A) (z : Change) (f : ℕ)
      → s ≡ Child x
      → slot_gone (suc d) s z f
      ≡ table_gone d x.value z f + cond (is_folded (suc d) (entry_at d x.value) z) (is_one (frame_of x.value) f) 0
  unfolding slot_gone gone_parts
  gone_child d x s z f e = rw e (case_child _ _ x)

  slot_frames : (f d b : ℕ) (s : Slot A)
      → IsSlot d s
      → Matches m ts d d b (slot_entry d s) (slot_table d s)
      → frames c n ts f (lost c n ts f d b) ≡ cond (meets c d b) (slot_gone d s (part d b c) f) 0
  unfolding slot_gone gone_parts
  slot_frames f zero b s shape h = frames_none c n ts f (lost c n ts f 0 b) (meets c 0 b) (lost_page c n ts f b)
  slot_frames f (suc d) b s shape h =
      by_slot s
      (λ w e. frames_none c n ts f (lost c n ts f (suc d) b) (meets c (suc d) b)
      (bare_lost c n ts f m (suc d) b (entry_of_word (desc_of (level_at (suc d)) w))
      (match_word m ts (suc d) b w s e h))
      ∙ ap (λ k. cond (meets c (suc d) b) k 0) (sym (gone_word d w s (part (suc d) b c) f e)))
      (λ x e. by_test (meets c (suc d) b)
      (λ t.
      let has = child_here m ts d b s x e h in
      let inner = match_child m ts d b s x e h in
      let test = is_one_word n (suc d, b) in
      let freed' : is_freed ts n (suc d, b) ≡ test =
      ap (λ (o : Option ℕ). elim (is_some o) as (λ _. Bool) [ true ↦ test | false ↦ false ]) has in
      let all =
      frames_below c n ts f d b (gone_parts d x.value f)
      (λ i p. slot_frames f d (512 * b + i) (slot_at x.value i)
      (shaped_slot d x.value i (child_shaped d x s shape e) p) (match_slot m ts d b i x.value p inner)) in
      ap (frames c n ts f) (lost_met c n ts f d b test t freed')
      ∙ frames_head c n ts f d b (frame_of x.value) test has
      ∙ ap (λ k. k + cond test (is_one (frame_of x.value) f) 0) all
      ∙ ap (λ k. table_gone d x.value (part (suc d) b c) f + cond k (is_one (frame_of x.value) f) 0)
      (folded_after d b x.value inner)
      ∙ sym (gone_child d x s (part (suc d) b c) f e)
      ∙ ap (λ k. cond k (slot_gone (suc d) s (part (suc d) b c) f) 0) (sym t))
      (frames_unmet c n ts f (suc d) b (slot_gone (suc d) s (part (suc d) b c) f)))

  table_frames : (f d b : ℕ) (t : Table A)
      → IsShaped d t
      → Matches m ts d (suc d) b (entry_at d t) (table_in d t)
      → frames c n ts f (lost_below c n ts f d b) ≡ table_gone d t (part (suc d) b c) f
  unfolding gone_parts
  table_frames f d b t shape h =
      frames_below c n ts f d b (gone_parts d t f)
      (λ i p. slot_frames f d (512 * b + i) (slot_at t i) (shaped_slot d t i shape p) (match_slot m ts d b i t p h))

-- the frames that come back of a tree
module _ {A : Type 0} (t : Tree A) (first count : ℕ) (e : Entry) (c : Change) (some : 0 < count)
    (within : first + count ≤ input_pages t.geometry) (from : c.first ≡ first) (to : c.end ≡ first + count)
    (gives : c.entry ≡ e) where
  abbrev top : ℕ
  top = levels_below t.geometry

  lost_walked : (f : ℕ)
      → freed top (tree_of t) (put first count e)
      ≡ lost_below c (update (meaning t) first count e) (λ b. table_at t b.0 b.1) f top 0
  unfolding freed
  lost_walked f =
      let pass = is_freed (λ b. table_at t b.0 b.1) (update (meaning t) first count e) in
      ap (filter pass) (blocks_tree t first count e c some within from to gives)
      ∙ filter_joined pass (λ i. under c top (512 * 0 + i)) 512

  pub gone_returned : (f : ℕ)
      → table_gone top t.table c f ≡ frame_count f (returned top (tree_of t) (put first count e))
  unfolding returned
  gone_returned f =
      let m = meaning t in
      let n = update m first count e in
      let ts : Block → Option ℕ = λ b. table_at t b.0 b.1 in
      let made = made_tree t first count e c some within from to gives in
      let all = table_frames c m n ts made f top 0 t.table t.shaped (match_tree t) in
      sym
      (ap (λ bs. frame_count f (filter_map ts bs)) (lost_walked f) ∙ all
      ∙ ap (λ z. table_gone top t.table z f) (whole_part t first count e c some within from to gives))
