-- The need of a change of a tree is what its walk counts.
use Rattle.std.proofs.Common.{◌≡◌, ℕ, zero, suc, ◌+◌, ◌*◌, ◌<◌, ◌≤◌, refl, sym, ap, arith, ◌∙◌, Bool, true, false, not, cond, nat_lt, is_some, Option, Some, None, List, [], ◌∷◌, length, filter}
use Rattle.std.specs.declared.boxed.Box.{Box}
use Rattle.descriptor.specs.Word.{desc_of}
use Rattle.page_state.specs.declared.entry.Entry.{Entry}
use Rattle.page_state.specs.Entries.{advance, entry_of_word}
use Rattle.page_state.specs.Map.{Map, update}
use Rattle.page_state.specs.Trees.{Block}
use Rattle.page_state.specs.Blocks.{fits_word, is_one_word}
use Rattle.page_state.specs.Tables.{put, needs, need}
use Rattle.page_state.specs.Geometries.{levels_below, input_pages, block_pages}
use Rattle.page_state.proofs.Cases.{by_test}
use Rattle.table_tree.specs.declared.table.Table.{Table}
use Rattle.table_tree.specs.declared.table.Slot.{Slot}
use Rattle.table_tree.specs.declared.table.Slot.TheVariants.{Word, Child}
use Rattle.table_tree.specs.declared.tree.Tree.{Tree}
use Rattle.table_tree.specs.Meaning.{level_at, slot_at, entry_at}
use Rattle.table_tree.specs.Shape.{IsShaped}
use Rattle.table_tree.specs.Tables.{table_in}
use Rattle.table_tree.specs.Slots.{IsSlot, slot_entry, slot_table}
use Rattle.table_tree.specs.View.{meaning, table_at, tree_of}
use Rattle.table_tree.proofs.Slots.{by_slot, case_word, case_child, shaped_slot, slot_word_is, child_shaped}
use Rattle.page_state.proofs.Fits.{fits_part}
use Rattle.walk_plan.specs.declared.change.Change.{Change}
use Rattle.walk_plan.specs.Changes.{part, stays_one_word as is_one_word_after}
use Rattle.walk_plan.specs.inner.Needs.{sum_to, met, block_need, slot_need, table_need, table_parts}
use Rattle.walk_plan.proofs.Entries.{word_fits}
use Rattle.walk_plan.proofs.Numbers.{part_part}
use Rattle.table_tree.specs.AllBlocks.{gathered}
use Rattle.table_tree.proofs.Joined.{joined_none}
use Rattle.walk_plan.proofs.Joined.{sum_same, length_joined, filter_joined}
use Rattle.walk_plan.proofs.Walked.{meets, under, under_page, under_met, under_unmet}
use Rattle.walk_plan.proofs.OneWord.{IsMade, one_word_part, one_word_same}
use Rattle.walk_plan.proofs.Matched.{Matches, IsBare, bare_part, bare_map, bare_here, match_slot, match_child, child_here, match_word, match_tree}
use Rattle.walk_plan.proofs.OfTree.{made_tree, blocks_tree, whole_part, low_depth}

-- steps of the definitions

-- a part that a change meets, of a part
pub met_part : (d b i : ℕ) (c : Change) (g : ℕ → Change → ℕ)
    → i < 512
    → met d (part (suc d) b c) g i ≡ cond (meets c d (512 * b + i)) (g i (part d (512 * b + i) c)) 0
unfolding met
met_part d b i c g p = ap (λ (z : Change). cond (nat_lt z.first z.end) (g i z) 0) (part_part d b i c p)

pub block_need_step : (d : ℕ) (x : Entry) (c : Change)
    → block_need (suc d) x c
    ≡ cond (is_one_word_after (suc d) x c) 0
    (1 + sum_to (met d c (λ i. block_need d (advance x (i * block_pages d)))) 512)
unfolding block_need
block_need_step d x c = refl

module _ {A : Type 0} where
  pub need_word : (d w : ℕ) (s : Slot A) (c : Change)
      → s ≡ Word w
      → slot_need (suc d) s c ≡ block_need (suc d) (entry_of_word (desc_of (level_at (suc d)) w)) c
  unfolding slot_need
  need_word d w s c e = rw e (case_word _ _ w)

  pub need_child : (d : ℕ) (b : Box (Table A) A) (s : Slot A) (c : Change)
      → s ≡ Child b
      → slot_need (suc d) s c ≡ table_need d b.value c
  unfolding slot_need table_parts
  need_child d b s c e = rw e (case_child _ _ b)

-- a block needs a table: it has none and isn't one word in the map `n`
abbrev pub is_needed : (Block → Option ℕ) → Map → Block → Bool
is_needed ts n b = elim (is_some (ts b)) [ true ↦ false | false ↦ not (is_one_word n b) ]

module _ (c : Change) (n : Map) (ts : Block → Option ℕ) where
  -- the needed blocks of one, and those below it
  abbrev pub needed : ℕ → ℕ → List Block
  needed d b = filter (is_needed ts n) (under c d b)

  abbrev pub needed_below : ℕ → ℕ → List Block
  needed_below d b = gathered (λ i. needed d (512 * b + i)) 512

  -- one word, so not needed
  pub one_word_not : (b : Block) → is_one_word n b ≡ true → is_needed ts n b ≡ false
  one_word_not b h = by_test (is_some (ts b)) (λ e. rw (e, is_needed) refl) (λ e. rw (e, h, is_needed) refl)

  pub table_not : (b : Block) (f : ℕ) → ts b ≡ Some f → is_needed ts n b ≡ false
  table_not b f h = ap (λ (o : Option ℕ). elim (is_some o) [ true ↦ false | false ↦ not (is_one_word n b) ]) h

  pub bare_needed : (b : Block) → ts b ≡ None → is_needed ts n b ≡ not (is_one_word n b)
  bare_needed b h = ap (λ (o : Option ℕ). elim (is_some o) [ true ↦ false | false ↦ not (is_one_word n b) ]) h

  pub needed_page : (b : ℕ) → needed 0 b ≡ []
  needed_page b = ap (filter (is_needed ts n)) (under_page c b)

  pub needed_unmet : (d b : ℕ) → meets c d b ≡ false → needed d b ≡ []
  needed_unmet d b h = rw (under_unmet c d b h) refl

  needed_met : (d b : ℕ)
      → meets c (suc d) b ≡ true
      → needed (suc d) b ≡ cond (is_needed ts n (suc d, b)) ((suc d, b) ∷ needed_below d b) (needed_below d b)
  needed_met d b h =
      ap (filter (is_needed ts n)) (under_met c d b h)
      ∙ ap (λ xs. cond (is_needed ts n (suc d, b)) ((suc d, b) ∷ xs) xs)
      (filter_joined (is_needed ts n) (λ i. under c d (512 * b + i)) 512)

  pub needed_head : (d b : ℕ)
      → meets c (suc d) b ≡ true
      → is_needed ts n (suc d, b) ≡ true
      → needed (suc d) b ≡ (suc d, b) ∷ needed_below d b
  needed_head d b h k = needed_met d b h ∙ ap (λ t. cond t ((suc d, b) ∷ needed_below d b) (needed_below d b)) k

  pub needed_past : (d b : ℕ)
      → meets c (suc d) b ≡ true
      → is_needed ts n (suc d, b) ≡ false
      → needed (suc d) b ≡ needed_below d b
  needed_past d b h k = needed_met d b h ∙ ap (λ t. cond t ((suc d, b) ∷ needed_below d b) (needed_below d b)) k

  -- a block that is one word needs no table, nor does one below it
  pub one_word_none : (d b : ℕ) → d < 4 → is_one_word n (d, b) ≡ true → needed d b ≡ []
  one_word_none zero b p h = needed_page b
  one_word_none (suc d) b p h =
      by_test (meets c (suc d) b)
      (λ t. needed_past d b t (one_word_not (suc d, b) h)
      ∙ joined_none (λ i. needed d (512 * b + i)) 512
      (λ i q. one_word_none d (512 * b + i) (omega arith) (one_word_part n d b i q h)))
      (needed_unmet (suc d) b)

  -- the number of needed blocks

  abbrev pub count : ℕ → ℕ → ℕ
  count d b = length (needed d b)

  pub count_below : (d b : ℕ) (g : ℕ → Change → ℕ)
      → ((i : ℕ) → i < 512 → count d (512 * b + i) ≡ cond (meets c d (512 * b + i)) (g i (part d (512 * b + i) c)) 0)
      → length (needed_below d b) ≡ sum_to (met d (part (suc d) b c) g) 512
  count_below d b g h =
      length_joined (λ i. needed d (512 * b + i)) 512
      ∙ sum_same (λ i. count d (512 * b + i)) (met d (part (suc d) b c) g) 512
      (λ i p. h i p ∙ sym (met_part d b i c g p))

  count_unmet : (d b k : ℕ) → meets c d b ≡ false → count d b ≡ cond (meets c d b) k 0
  count_unmet d b k h = ap length (needed_unmet d b h) ∙ ap (λ t. cond t k 0) (sym h)

module _ (c : Change) (m n : Map) (ts : Block → Option ℕ) (made : IsMade c m n) where
  pub block_count : (d b : ℕ) (x : Entry)
      → d < 4
      → fits_word d x ≡ true
      → IsBare m ts d b x
      → count c n ts d b ≡ cond (meets c d b) (block_need d x (part d b c)) 0
  unfolding block_need
  block_count zero b x p fits h =
      by_test (meets c zero b) (λ t. ap length (needed_page c n ts b) ∙ ap (λ z. cond z 0 0) (sym t))
      (count_unmet c n ts zero b 0)
  block_count (suc d) b x p fits h =
      by_test (meets c (suc d) b)
      (λ t.
      let same = one_word_same c m n made (suc d) b x t fits (bare_map m ts (suc d) b x h) in
      let is = bare_needed c n ts (suc d, b) (bare_here m ts d b x h) in
      let parts : length (needed_below c n ts d b) ≡ sum_to (met d (part (suc d) b c) (λ i. block_need d (advance x (i * block_pages d)))) 512 =
      count_below c n ts d b (λ i. block_need d (advance x (i * block_pages d)))
      (λ i q. block_count d (512 * b + i) (advance x (i * block_pages d)) (omega arith) (fits_part d i x q fits)
      (bare_part m ts d b i x q h)) in
      let goal : count c n ts (suc d) b ≡ block_need (suc d) x (part (suc d) b c) =
      by_test (is_one_word n (suc d, b))
      (λ u. ap length (one_word_none c n ts (suc d) b p u)
      ∙ sym (block_need_step d x (part (suc d) b c) ∙ rw (sym same, u) refl))
      (λ u. ap length (needed_head c n ts d b t (is ∙ ap not u)) ∙ ap suc parts
      ∙ sym (block_need_step d x (part (suc d) b c) ∙ rw (sym same, u) (omega arith))) in
      goal ∙ ap (λ z. cond z (block_need (suc d) x (part (suc d) b c)) 0) (sym t))
      (count_unmet c n ts (suc d) b (block_need (suc d) x (part (suc d) b c)))

  -- a slot of a table, and a table
  module _ {A : Type 0} where
    pub slot_count : (d b : ℕ) (s : Slot A)
        → d < 4
        → IsSlot d s
        → Matches m ts d d b (slot_entry d s) (slot_table d s)
        → count c n ts d b ≡ cond (meets c d b) (slot_need d s (part d b c)) 0
    unfolding slot_need table_parts
    slot_count zero b s p shape h =
        by_test (meets c zero b) (λ t. ap length (needed_page c n ts b) ∙ ap (λ z. cond z 0 0) (sym t))
        (count_unmet c n ts zero b 0)
    slot_count (suc d) b s p shape h =
        by_slot s
        (λ w e. block_count (suc d) b (entry_of_word (desc_of (level_at (suc d)) w)) p
        (word_fits (suc d) w p (slot_word_is (suc d) w s shape e)) (match_word m ts (suc d) b w s e h)
        ∙ ap (λ k. cond (meets c (suc d) b) k 0) (sym (need_word d w s (part (suc d) b c) e)))
        (λ x e. by_test (meets c (suc d) b)
        (λ t.
        let has = child_here m ts d b s x e h in
        let all =
        count_below c n ts d b (table_parts d x.value)
        (λ i q. slot_count d (512 * b + i) (slot_at x.value i) (omega arith)
        (shaped_slot d x.value i (child_shaped d x s shape e) q)
        (match_slot m ts d b i x.value q (match_child m ts d b s x e h))) in
        ap length (needed_past c n ts d b t (table_not c n ts (suc d, b) _ has)) ∙ all
        ∙ sym (need_child d x s (part (suc d) b c) e)
        ∙ ap (λ z. cond z (slot_need (suc d) s (part (suc d) b c)) 0) (sym t))
        (count_unmet c n ts (suc d) b (slot_need (suc d) s (part (suc d) b c))))

    pub table_count : (d b : ℕ) (t : Table A)
        → d < 4
        → IsShaped d t
        → Matches m ts d (suc d) b (entry_at d t) (table_in d t)
        → length (needed_below c n ts d b) ≡ table_need d t (part (suc d) b c)
    unfolding table_parts
    table_count d b t p shape h =
        count_below c n ts d b (table_parts d t)
        (λ i q. slot_count d (512 * b + i) (slot_at t i) p (shaped_slot d t i shape q)
        (match_slot m ts d b i t q h))

-- the need of a change of a tree
module _ {A : Type 0} (t : Tree A) (first count : ℕ) (e : Entry) (c : Change) (some : 0 < count)
    (within : first + count ≤ input_pages t.geometry) (from : c.first ≡ first) (to : c.end ≡ first + count)
    (gives : c.entry ≡ e) where
  abbrev top : ℕ
  top = levels_below t.geometry

  pub needs_walked : needs top (tree_of t) (put first count e)
      ≡ needed_below c (update (meaning t) first count e) (λ b. table_at t b.0 b.1) top 0
  unfolding needs
  needs_walked =
      let pass = is_needed (λ b. table_at t b.0 b.1) (update (meaning t) first count e) in
      ap (filter pass) (blocks_tree t first count e c some within from to gives)
      ∙ filter_joined pass (λ i. under c top (512 * 0 + i)) 512

  pub need_walked : table_need top t.table c ≡ need top (tree_of t) (put first count e)
  need_walked =
      let m = meaning t in
      let n = update m first count e in
      let ts : Block → Option ℕ = λ b. table_at t b.0 b.1 in
      let made = made_tree t first count e c some within from to gives in
      let all = table_count c m n ts made top 0 t.table (low_depth t.geometry) t.shaped (match_tree t) in
      sym
      (ap length needs_walked ∙ all
      ∙ ap (table_need top t.table) (whole_part t first count e c some within from to gives))
