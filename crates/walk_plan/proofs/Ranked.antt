-- The tables that a change makes stand where its walk ranks them.
use Rattle.std.proofs.Common.{◌≡◌, ℕ, zero, suc, ◌+◌, ◌*◌, ◌<◌, ◌≤◌, refl, sym, ap, subst, arith, ◌∙◌, true, false, not, ◌==◌, cond, nat_lt, Option, Some, None, List, length}
use Rattle.std.specs.declared.boxed.Box.{Box}
use Rattle.std.proofs.lemmas.List.Elements.{All-weaker, All-filter}
use Rattle.descriptor.specs.Word.{desc_of}
use Rattle.page_state.specs.declared.entry.Entry.{Entry}
use Rattle.page_state.specs.Entries.{advance, entry_of_word}
use Rattle.page_state.specs.Map.{Map, update}
use Rattle.page_state.specs.Trees.{Block}
use Rattle.page_state.specs.Blocks.{fits_word, is_one_word, block_eq, blocks_on}
use Rattle.page_state.specs.Tables.{Edit, put, needs, need, placed}
use Rattle.page_state.specs.Geometries.{levels_below, input_pages, block_pages}
use Rattle.page_state.proofs.Sizes.{size_some}
use Rattle.page_state.proofs.Cases.{by_test}
use Rattle.page_state.proofs.Common.{eq-same}
use Rattle.table_tree.specs.declared.table.Table.{Table}
use Rattle.table_tree.specs.declared.table.Slot.{Slot}
use Rattle.table_tree.specs.declared.table.Slot.TheVariants.{Word, Child}
use Rattle.table_tree.specs.declared.tree.Tree.{Tree}
use Rattle.table_tree.specs.Meaning.{level_at, index_at, slot_at, entry_at, frame_of}
use Rattle.table_tree.specs.Shape.{IsShaped}
use Rattle.table_tree.specs.Tables.{table_in}
use Rattle.table_tree.specs.Slots.{IsSlot, slot_entry, slot_table}
use Rattle.table_tree.specs.View.{meaning, table_at, tree_of}
use Rattle.table_tree.proofs.Slots.{by_slot, case_word, case_child, shaped_slot, slot_word_is, child_shaped}
use Rattle.page_state.proofs.Fits.{fits_part}
use Rattle.walk_plan.specs.declared.change.Change.{Change}
use Rattle.walk_plan.specs.Changes.{part, stays_one_word as is_one_word_after}
use Rattle.walk_plan.specs.inner.Needs.{sum_to, met, block_parts, table_parts}
use Rattle.walk_plan.specs.inner.Ranks.{given_rank, later, met_at, block_rank, slot_rank, table_rank}
use Rattle.walk_plan.proofs.Entries.{word_fits, eq_differ}
use Rattle.walk_plan.proofs.Numbers.{part_part}
use Rattle.walk_plan.proofs.Joined.{sum_same}
use Rattle.walk_plan.proofs.Cases.{by_option}
use Rattle.walk_plan.proofs.Walked.{meets, under, IsUnder, all_under}
use Rattle.walk_plan.proofs.InBlocks.{IsIn, in_part, index_of_in, top_block, top_other, below_top}
use Rattle.walk_plan.proofs.OneWord.{IsMade, one_word_same}
use Rattle.walk_plan.proofs.Matched.{Matches, IsBare, bare_part, bare_map, bare_here, match_slot, match_child, child_here, match_word, match_tree, all_pages}
use Rattle.walk_plan.proofs.OfTree.{made_tree, whole_part, low_depth}
use Rattle.walk_plan.proofs.Needed.{is_needed, needed, needed_below, count, met_part, needed_unmet, needed_head, needed_past, one_word_none, table_not, bare_needed, block_count, slot_count, needs_walked}
use Rattle.walk_plan.proofs.Places.{block_self, block_other, place, place_nil, place_here, place_later, place_none, place_filter, place_joined, placed_given, placed_old}

-- steps of the definitions

met_at_part : (d b i : ℕ) (c : Change) (h : ℕ → Change → Option ℕ)
    → i < 512
    → met_at d (part (suc d) b c) h i ≡ cond (meets c d (512 * b + i)) (h i (part d (512 * b + i) c)) None
met_at_part d b i c h p = ap (λ (z : Change). cond (nat_lt z.first z.end) (h i z) None) (part_part d b i c p)

rank_whole : (d : ℕ) (x : Entry) (c : Change) (low q : ℕ)
    → is_one_word_after (suc d) x c ≡ true
    → block_rank (suc d) x c low q ≡ None
unfolding block_rank
rank_whole d x c low q h = rw h refl

rank_here : (d : ℕ) (x : Entry) (c : Change) (low q : ℕ)
    → is_one_word_after (suc d) x c ≡ false
    → (low == d) ≡ true
    → block_rank (suc d) x c low q ≡ Some 0
unfolding block_rank
rank_here d x c low q h k = rw (h, k) refl

abbrev parts_place : ℕ → Entry → Change → ℕ → ℕ → Option ℕ
parts_place d x c low q =
    later (sum_to (met d c (block_parts d x)) (index_at d q))
    (met_at d c (λ i z. block_rank d (advance x (i * block_pages d)) z low q) (index_at d q))

rank_past : (d : ℕ) (x : Entry) (c : Change) (low q : ℕ)
    → is_one_word_after (suc d) x c ≡ false
    → (low == d) ≡ false
    → block_rank (suc d) x c low q ≡ later 1 (parts_place d x c low q)
unfolding block_rank
rank_past d x c low q h k = rw (h, k) refl

module _ {A : Type 0} where
  rank_word : (d w : ℕ) (s : Slot A) (c : Change) (low q : ℕ)
      → s ≡ Word w
      → slot_rank (suc d) s c low q ≡ block_rank (suc d) (entry_of_word (desc_of (level_at (suc d)) w)) c low q
  unfolding slot_rank
  rank_word d w s c low q e = rw e (case_word _ _ w)

  pub rank_child : (d : ℕ) (b : Box (Table A) A) (s : Slot A) (c : Change) (low q : ℕ)
      → s ≡ Child b
      → slot_rank (suc d) s c low q ≡ table_rank d b.value c low q
  unfolding slot_rank table_rank
  rank_child d b s c low q e = rw e (case_child _ _ b)

module _ (c : Change) (n : Map) (ts : Block → Option ℕ) (low j : ℕ) where
  abbrev page : ℕ
  page = j * block_pages (suc low)

  other_part : (d b k : ℕ)
      → k < 512
      → (k ≡ index_at d page → ⊥)
      → place (needed c n ts d (512 * b + k)) (suc low, j) ≡ None
  other_part d b k p ne =
      place_none (needed c n ts d (512 * b + k)) (suc low, j)
      (All-filter (is_needed ts n) (λ a. block_eq a (suc low, j) ≡ false) (under c d (512 * b + k))
      (All-weaker (IsUnder c d (512 * b + k)) (λ a. block_eq a (suc low, j) ≡ false)
      (λ a u. block_other a (suc low, j) (λ e.
      let v : IsUnder c d (512 * b + k) (suc low, j) = subst (λ z. IsUnder c d (512 * b + k) z) e u in
      let l = v.low in
      let h = v.high in
      let s = size_some (suc low) in
      ne (sym (index_of_in d b k page p (record { low = l; high = omega arith })))))
      (under c d (512 * b + k)) (all_under c d (512 * b + k))))

  below_place : (d b : ℕ) (g : ℕ → Change → ℕ) (h : ℕ → Change → Option ℕ)
      → ((i : ℕ)
      → i < 512
      → count c n ts d (512 * b + i) ≡ cond (meets c d (512 * b + i)) (g i (part d (512 * b + i) c)) 0)
      → place (needed c n ts d (512 * b + index_at d page)) (suc low, j)
      ≡ cond (meets c d (512 * b + index_at d page))
      (h (index_at d page) (part d (512 * b + index_at d page) c)) None
      → place (needed_below c n ts d b) (suc low, j)
      ≡ later (sum_to (met d (part (suc d) b c) g) (index_at d page))
      (met_at d (part (suc d) b c) h (index_at d page))
  below_place d b g h sums at =
      let i = index_at d page in
      let p : i < 512 = omega arith in
      let parts : ℕ → List Block = λ k. needed c n ts d (512 * b + k) in
      let sum : sum_to (λ k. length (parts k)) i ≡ sum_to (met d (part (suc d) b c) g) i =
      sum_same (λ k. length (parts k)) (met d (part (suc d) b c) g) i
      (λ k q. let r : k < 512 = omega arith in sums k r ∙ sym (met_part d b k c g r)) in
      place_joined parts 512 i (suc low, j) p (λ k q ne. other_part d b k q ne)
      ∙ ap (λ z. later z (place (parts i) (suc low, j))) sum
      ∙ ap (λ z. later (sum_to (met d (part (suc d) b c) g) i) z) (at ∙ sym (met_at_part d b i c h p))

  place_unmet : (d b : ℕ) (r : Option ℕ)
      → meets c d b ≡ false
      → place (needed c n ts d b) (suc low, j) ≡ cond (meets c d b) r None
  place_unmet d b r h =
      ap (λ xs. place xs (suc low, j)) (needed_unmet c n ts d b h) ∙ place_nil (suc low, j)
      ∙ ap (λ t. cond t r None) (sym h)

module _ (c : Change) (m n : Map) (ts : Block → Option ℕ) (made : IsMade c m n) (low j : ℕ) where
  abbrev at : ℕ
  at = j * block_pages (suc low)

  block_place : (d b : ℕ) (x : Entry)
      → d < 4
      → fits_word d x ≡ true
      → IsBare m ts d b x
      → low < d
      → IsIn d b at
      → place (needed c n ts d b) (suc low, j) ≡ cond (meets c d b) (block_rank d x (part d b c) low at) None
  unfolding block_parts
  block_place zero b x p fits h l in' = absurd (omega arith)
  block_place (suc d) b x p fits h l in' =
      by_test (meets c (suc d) b)
      (λ t.
      let same = one_word_same c m n made (suc d) b x t fits (bare_map m ts (suc d) b x h) in
      let is = bare_needed c n ts (suc d, b) (bare_here m ts d b x h) in
      let goal : place (needed c n ts (suc d) b) (suc low, j) ≡ block_rank (suc d) x (part (suc d) b c) low at =
      by_test (is_one_word n (suc d, b))
      (λ u. ap (λ xs. place xs (suc low, j)) (one_word_none c n ts (suc d) b p u) ∙ place_nil (suc low, j)
      ∙ sym (rank_whole d x (part (suc d) b c) low at (sym same ∙ u)))
      (λ u.
      let head = ap (λ xs. place xs (suc low, j)) (needed_head c n ts d b t (is ∙ ap not u)) in
      by_test (low == d)
      (λ v. head
      ∙ place_here (suc d, b) (suc low, j) (needed_below c n ts d b)
      (block_self (suc d, b) (suc low, j) (top_block d b low j (eq-same low d v) in'))
      ∙ sym (rank_here d x (part (suc d) b c) low at (sym same ∙ u) v))
      (λ v.
      let parts =
      below_place c n ts low j d b (block_parts d x) (λ i z. block_rank d (advance x (i * block_pages d)) z low at)
      (λ i q. block_count c m n ts made d (512 * b + i) (advance x (i * block_pages d)) (omega arith)
      (fits_part d i x q fits) (bare_part m ts d b i x q h))
      (block_place d (512 * b + index_at d at) (advance x (index_at d at * block_pages d)) (omega arith)
      (fits_part d (index_at d at) x (omega arith) fits) (bare_part m ts d b (index_at d at) x (omega arith) h)
      (let ne = eq_differ low d v in below_top low d l ne) (in_part d b at in')) in
      head
      ∙ place_later (suc d, b) (suc low, j) (needed_below c n ts d b)
      (block_other (suc d, b) (suc low, j) (top_other d b low j (eq_differ low d v)))
      ∙ ap (later 1) parts ∙ sym (rank_past d x (part (suc d) b c) low at (sym same ∙ u) v))) in
      goal ∙ ap (λ z. cond z (block_rank (suc d) x (part (suc d) b c) low at) None) (sym t))
      (place_unmet c n ts low j (suc d) b (block_rank (suc d) x (part (suc d) b c) low at))

  module _ {A : Type 0} where
    slot_place : (d b : ℕ) (s : Slot A)
        → d < 4
        → IsSlot d s
        → Matches m ts d d b (slot_entry d s) (slot_table d s)
        → low < d
        → IsIn d b at
        → ts (suc low, j) ≡ None
        → place (needed c n ts d b) (suc low, j) ≡ cond (meets c d b) (slot_rank d s (part d b c) low at) None
    unfolding table_parts table_rank
    slot_place zero b s p shape h l in' none = absurd (omega arith)
    slot_place (suc d) b s p shape h l in' none =
        by_slot s
        (λ w e. block_place (suc d) b (entry_of_word (desc_of (level_at (suc d)) w)) p
        (word_fits (suc d) w p (slot_word_is (suc d) w s shape e)) (match_word m ts (suc d) b w s e h) l in'
        ∙ ap (λ k. cond (meets c (suc d) b) k None) (sym (rank_word d w s (part (suc d) b c) low at e)))
        (λ x e. by_test (meets c (suc d) b)
        (λ t.
        let has = child_here m ts d b s x e h in
        let ne : low ≡ d → ⊥ =
        λ k. let wrong : None ≡ Some (frame_of x.value) =
        sym none ∙ ap ts (sym (top_block d b low j k in')) ∙ has in
        cc in
        let l' = below_top low d l ne in
        let shaped = child_shaped d x s shape e in
        let inner = match_child m ts d b s x e h in
        let i = index_at d at in
        let all = below_place c n ts low j d b (table_parts d x.value) (λ k z. slot_rank d (slot_at x.value k) z low at)
        (λ k q. slot_count c m n ts made d (512 * b + k) (slot_at x.value k) (omega arith)
        (shaped_slot d x.value k shaped q) (match_slot m ts d b k x.value q inner))
        (slot_place d (512 * b + i) (slot_at x.value i) (omega arith) (shaped_slot d x.value i shaped (omega arith))
        (match_slot m ts d b i x.value (omega arith) inner) l' (in_part d b at in') none) in
        ap (λ xs. place xs (suc low, j)) (needed_past c n ts d b t (table_not c n ts (suc d, b) _ has)) ∙ all
        ∙ sym (rank_child d x s (part (suc d) b c) low at e)
        ∙ ap (λ z. cond z (slot_rank (suc d) s (part (suc d) b c) low at) None) (sym t))
        (place_unmet c n ts low j (suc d) b (slot_rank (suc d) s (part (suc d) b c) low at)))

    table_place : (d b : ℕ) (t : Table A)
        → d < 4
        → IsShaped d t
        → Matches m ts d (suc d) b (entry_at d t) (table_in d t)
        → low < d
        → IsIn (suc d) b at
        → ts (suc low, j) ≡ None
        → place (needed_below c n ts d b) (suc low, j) ≡ table_rank d t (part (suc d) b c) low at
    unfolding table_parts table_rank
    table_place d b t p shape h l in' none =
        let i = index_at d at in
        below_place c n ts low j d b (table_parts d t) (λ k z. slot_rank d (slot_at t k) z low at)
        (λ k q. slot_count c m n ts made d (512 * b + k) (slot_at t k) p (shaped_slot d t k shape q)
        (match_slot m ts d b k t q h))
        (slot_place d (512 * b + i) (slot_at t i) p (shaped_slot d t i shape (omega arith))
        (match_slot m ts d b i t (omega arith) h) l (in_part d b at in') none)

-- the tables that a change of a tree makes
module _ {A : Type 0} (t : Tree A) (first count : ℕ) (e : Entry) (c : Change) (some : 0 < count)
    (within : first + count ≤ input_pages t.geometry) (from : c.first ≡ first) (to : c.end ≡ first + count)
    (gives : c.entry ≡ e) where
  abbrev top : ℕ
  top = levels_below t.geometry

  abbrev edit : Edit
  edit = put first count e

  placed_kept : (fs : List ℕ) (b : Block) (f : ℕ)
      → table_at t b.0 b.1 ≡ Some f
      → placed (needs top (tree_of t) edit) fs (tree_of t).table b ≡ Some f
  unfolding needs
  placed_kept fs b f h =
      let n = update (meaning t) first count e in
      let ts : Block → Option ℕ = λ b. table_at t b.0 b.1 in
      placed_old (needs top (tree_of t) edit) fs ts b
      (place_filter (is_needed ts n) (blocks_on top first count) b (table_not c n ts b f h))
      ∙ h

  placed_made : (fs : List ℕ) (low j : ℕ)
      → low < top
      → j * block_pages (suc low) < input_pages t.geometry
      → need top (tree_of t) edit ≤ length fs
      → table_at t (suc low) j ≡ None
      → placed (needs top (tree_of t) edit) fs (tree_of t).table (suc low, j)
      ≡ given_rank fs None (table_rank top t.table c low (j * block_pages (suc low)))
  placed_made fs low j p q enough h =
      let m = meaning t in
      let n = update m first count e in
      let ts : Block → Option ℕ = λ b. table_at t b.0 b.1 in
      let made = made_tree t first count e c some within from to gives in
      let pages = all_pages t in
      let rank =
      table_place c m n ts made low j top 0 t.table (low_depth t.geometry) t.shaped (match_tree t) p
      (record { low = omega arith; high = omega arith }) h in
      placed_given (needs top (tree_of t) edit) fs ts (suc low, j) enough h
      ∙ ap (λ bs. given_rank fs None (place bs (suc low, j))) (needs_walked t first count e c some within from to gives)
      ∙ ap (given_rank fs None) rank
      ∙ ap (λ z. given_rank fs None (table_rank top t.table z low (j * block_pages (suc low))))
      (whole_part t first count e c some within from to gives)

  pub ranked_at : (fs : List ℕ) (low j : ℕ)
      → low < top
      → j * block_pages (suc low) < input_pages t.geometry
      → need top (tree_of t) edit ≤ length fs
      → placed (needs top (tree_of t) edit) fs (tree_of t).table (suc low, j)
      ≡ given_rank fs (table_at t (suc low) j) (table_rank top t.table c low (j * block_pages (suc low)))
  ranked_at fs low j p q enough =
      by_option (table_at t (suc low) j)
      (λ f h. placed_kept fs (suc low, j) f h
      ∙ ap (λ o. given_rank fs o (table_rank top t.table c low (j * block_pages (suc low)))) (sym h))
      (λ h. placed_made fs low j p q enough h
      ∙ ap (λ o. given_rank fs o (table_rank top t.table c low (j * block_pages (suc low)))) (sym h))
