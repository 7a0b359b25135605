-- Tables of words that give the parts of a block.
use Rattle.std.proofs.Common.{◌≡◌, ℕ, zero, suc, ◌+◌, ◌*◌, ◌^◌, ◌<◌, ◌≤◌, refl, ap, arith, ◌∙◌, cond, Bool, true, false}
use Rattle.std.specs.Prelude.{nat_lt}
use Rattle.std.specs.declared.boxed.Box.{Box}
use Rattle.descriptor.specs.Word.{desc_of}
use Rattle.page_state.specs.declared.entry.Entry.{Entry}
use Rattle.page_state.specs.Entries.{advance, entry_of_word}
use Rattle.page_state.specs.Geometries.{block_pages}
use Rattle.page_state.specs.Counts.{is_one}
use Rattle.table_tree.specs.declared.table.Table.{Table}
use Rattle.table_tree.specs.declared.table.Slot.{Slot}
use Rattle.table_tree.specs.declared.table.Slot.TheVariants.{Word, Child}
use Rattle.table_tree.specs.Meaning.{slot_at, level_at, index_at, frame_of, entry_at}
use Rattle.table_tree.specs.Shape.{IsEntryWord}
use Rattle.table_tree.proofs.Slots.{case_word, case_child}
use Rattle.walk_plan.specs.declared.change.Change.{Change}
use Rattle.walk_plan.specs.Changes.{part}
use Rattle.walk_plan.specs.inner.Needs.{sum_to, met, block_need, block_parts, slot_need, table_parts, table_need}
use Rattle.walk_plan.specs.inner.Ranks.{is_folded, later, block_rank, parts_rank, slot_rank, table_rank, slot_gone, gone_parts, table_gone}
use Rattle.walk_plan.proofs.Ranges.{slot_word, sum_none}
use Rattle.walk_plan.proofs.Joined.{sum_same}
use Rattle.walker.specs.inner.Steps.{IsPart}
use Rattle.walker.proofs.Ranks.{slot_rank_word, met_at_same}

zero_either : (b : Bool) (x : ℕ) → x ≡ 0 → cond b x 0 ≡ 0
zero_either true x e = e
zero_either false x e = refl

module _ {A : Type 0} where
  pub part_made : (n k w m : ℕ) (x : Entry) (s : Slot A)
      → s ≡ Word w
      → IsEntryWord n w
      → entry_of_word (desc_of (level_at n) w) ≡ advance x m
      → m ≡ k * block_pages n
      → IsPart n x k s
  unfolding IsPart
  part_made n k w m x s a b c e = (w, a, b, c ∙ ap (λ y. advance x y) e)

  part_need : (n k : ℕ) (x : Entry) (s : Slot A) (c : Change)
      → IsPart n x k s
      → slot_need n s c ≡ block_need n (advance x (k * block_pages n)) c
  unfolding IsPart
  part_need n k x s c h = slot_word n h.0 s c h.1 ∙ ap (λ y. block_need n y c) h.3

  part_rank : (n k : ℕ) (x : Entry) (s : Slot A) (c : Change) (low q : ℕ)
      → IsPart n x k s
      → slot_rank n s c low q ≡ block_rank n (advance x (k * block_pages n)) c low q
  unfolding IsPart
  part_rank n k x s c low q h = slot_rank_word n h.0 s c low q h.1 ∙ ap (λ y. block_rank n y c low q) h.3

  pub gone_word : (n w f : ℕ) (s : Slot A) (c : Change) → s ≡ Word w → slot_gone n s c f ≡ 0
  unfolding slot_gone
  gone_word zero w f s c e = refl
  gone_word (suc n) w f s c e = rw e (case_word _ _ w)

  pub gone_child : (n f : ℕ) (b : Box (Table A) A) (s : Slot A) (c : Change) → s ≡ Child b
      → slot_gone (suc n) s c f
      ≡ table_gone n b.value c f + cond (is_folded (suc n) (entry_at n b.value) c) (is_one (frame_of b.value) f) 0
  unfolding slot_gone gone_parts
  gone_child n f b s c e = rw e (case_child _ _ b)

  part_gone : (n k f : ℕ) (x : Entry) (s : Slot A) (c : Change) → IsPart n x k s → slot_gone n s c f ≡ 0
  unfolding IsPart
  part_gone n k f x s c h = gone_word n h.0 f s c h.1

  parts_sum : (n : ℕ) (x : Entry) (t : Table A)
      → ((k : ℕ) → k < 512 → IsPart n x k (slot_at t k))
      → (c : Change) (i : ℕ)
      → i ≤ 512
      → sum_to (met n c (table_parts n t)) i ≡ sum_to (met n c (block_parts n x)) i
  unfolding met table_parts block_parts
  parts_sum n x t h c i r =
      sum_same _ _ i
      (λ k p. ap (λ v. cond (nat_lt (part n k c).first (part n k c).end) v 0)
      (part_need n k x (slot_at t k) (part n k c) (h k (omega arith))))

  -- what a change needs there, which table it makes where, and that none goes
  pub parts_need : (n : ℕ) (x : Entry) (t : Table A)
      → ((k : ℕ) → k < 512 → IsPart n x k (slot_at t k))
      → (c : Change)
      → table_need n t c ≡ sum_to (met n c (block_parts n x)) 512
  parts_need n x t h c = parts_sum n x t h c 512 (omega arith)

  pub parts_ranked : (n : ℕ) (x : Entry) (t : Table A)
      → ((k : ℕ) → k < 512 → IsPart n x k (slot_at t k))
      → (c : Change) (low q : ℕ)
      → table_rank n t c low q ≡ parts_rank n x c low q
  unfolding table_rank parts_rank
  parts_ranked n x t h c low q =
      let i = index_at n q in
      let r =
      met_at_same n i c (λ j d. slot_rank n (slot_at t j) d low q)
      (λ j d. block_rank n (advance x (j * 2 ^ (9 * n))) d low q)
      (part_rank n i x (slot_at t i) (part n i c) low q (h i (omega arith))) in
      rw (parts_sum n x t h c i (omega arith)) (ap (λ v. later (sum_to (met n c (block_parts n x)) i) v) r)

  pub parts_gone : (n f : ℕ) (x : Entry) (t : Table A)
      → ((k : ℕ) → k < 512 → IsPart n x k (slot_at t k))
      → (c : Change)
      → table_gone n t c f ≡ 0
  unfolding met gone_parts
  parts_gone n f x t h c =
      sum_none _ 512
      (λ k p. zero_either (nat_lt (part n k c).first (part n k c).end) _
      (part_gone n k f x (slot_at t k) (part n k c) (h k p)))
