-- Which new table stands at a block, slot by slot.
use Rattle.std.proofs.Common.{◌≡◌, ℕ, zero, suc, ◌+◌, ◌-◌, ◌*◌, ◌/◌, ◌^◌, ◌<◌, ◌≤◌, refl, ap, arith, cond, true, false, ◌==◌, Option, Some, None, List, drop}
use Rattle.std.proofs.lemmas.Bool.Decides.{nat_tests}
use Rattle.std.proofs.lemmas.List.{get_or-drop}
use Rattle.std.specs.Prelude.{nat_lt}
use Rattle.descriptor.specs.Word.{desc_of}
use Rattle.page_state.specs.declared.entry.Entry.{Entry}
use Rattle.page_state.specs.Entries.{entry_of_word}
use Rattle.page_state.proofs.Sizes.{size_some}
use Rattle.table_tree.specs.declared.table.Table.{Table}
use Rattle.table_tree.specs.declared.table.Slot.{Slot}
use Rattle.table_tree.specs.declared.table.Slot.TheVariants.{Word}
use Rattle.table_tree.specs.Meaning.{slot_at, level_at, index_at}
use Rattle.table_tree.proofs.Slots.{case_word}
use Rattle.walk_plan.specs.declared.change.Change.{Change}
use Rattle.walk_plan.specs.Changes.{IsChange, part, stays_one_word}
use Rattle.walk_plan.specs.inner.Needs.{sum_to, met, table_parts}
use Rattle.walk_plan.specs.inner.Ranks.{given_rank, later, met_at, block_rank, parts_rank, slot_rank, table_rank}
use Rattle.walk_plan.proofs.Ranges.{before_part, after_part}

pub later_none : (n : ℕ) (r : Option ℕ) → r ≡ None → later n r ≡ None
later_none n r e = rw e refl

-- a stock of which `n` were taken
pub given_later : (fs : List ℕ) (n : ℕ) (o r : Option ℕ) → given_rank (drop n fs) o r ≡ given_rank fs o (later n r)
given_later fs n (Some x) r = refl
given_later fs n None None = refl
given_later fs n None (Some r) = ap Some (get_or-drop n fs r 0)

pub given_none : (fs : List ℕ) (o r : Option ℕ) → r ≡ None → given_rank fs o r ≡ o
given_none fs (Some x) r e = refl
given_none fs None r e = rw e refl

pub given_some : (fs : List ℕ) (o r : Option ℕ) (f : ℕ) → o ≡ Some f → given_rank fs o r ≡ Some f
given_some fs o r f e = rw e refl

met_at_none : (d i : ℕ) (c : Change) (f : ℕ → Change → Option ℕ)
    → (part d i c).end ≤ (part d i c).first
    → met_at d c f i ≡ None
met_at_none d i c f h = let z : nat_lt (part d i c).first (part d i c).end ≡ false = grind (arith, nat_tests) in
    rw z refl

pub met_at_some : (d i : ℕ) (c : Change) (f : ℕ → Change → Option ℕ)
    → IsChange d (part d i c)
    → met_at d c f i ≡ f i (part d i c)
met_at_some d i c f h = let s : (part d i c).first < (part d i c).end = h.some in
    let z : nat_lt (part d i c).first (part d i c).end ≡ true = grind (arith, nat_tests) in
    rw z refl

pub met_at_same : (d i : ℕ) (c : Change) (f g : ℕ → Change → Option ℕ)
    → f i (part d i c) ≡ g i (part d i c)
    → met_at d c f i ≡ met_at d c g i
met_at_same d i c f g e = ap (λ r. cond (nat_lt (part d i c).first (part d i c).end) r None) e

unmet_before : (d k : ℕ) (c : Change) → k < c.first / 2 ^ (9 * d) → (part d k c).end ≤ (part d k c).first
unmet_before d k c h = let b = before_part (2 ^ (9 * d)) k c.first (size_some d) h in omega (arith, b)

unmet_after : (d k : ℕ) (c : Change)
    → 1 ≤ c.end
    → (c.end - 1) / 2 ^ (9 * d) + 1 ≤ k
    → (part d k c).end ≤ (part d k c).first
unmet_after d k c e h = let b = after_part (2 ^ (9 * d)) k c.end (size_some d) e h in omega (arith, b)

pub block_rank_one : (d : ℕ) (x : Entry) (c : Change) (low q : ℕ)
    → stays_one_word d x c ≡ true
    → block_rank d x c low q ≡ None
unfolding block_rank
block_rank_one zero x c low q e = refl
block_rank_one (suc d) x c low q e = rw e refl

pub block_rank_split : (d : ℕ) (x : Entry) (c : Change) (low q : ℕ)
    → stays_one_word (suc d) x c ≡ false
    → block_rank (suc d) x c low q ≡ cond (low == d) (Some 0) (later 1 (parts_rank d x c low q))
unfolding block_rank parts_rank
block_rank_split d x c low q e = rw e refl

module _ {A : Type 0} where
  pub slot_rank_word : (d w : ℕ) (s : Slot A) (c : Change) (low q : ℕ)
      → s ≡ Word w
      → slot_rank d s c low q ≡ block_rank d (entry_of_word (desc_of (level_at d) w)) c low q
  unfolding slot_rank block_rank
  slot_rank_word zero w s c low q e = refl
  slot_rank_word (suc d) w s c low q e = rw e (case_word _ _ w)

  -- of a slot that the change doesn't meet
  unmet_rank : (d k : ℕ) (c : Change) (o : Table A) (low q : ℕ)
      → index_at d q ≡ k
      → (part d k c).end ≤ (part d k c).first
      → table_rank d o c low q ≡ None
  unfolding table_rank
  unmet_rank d k c o low q x h =
      rw x
      (later_none (sum_to (met d c (table_parts d o)) k) _
      (met_at_none d k c (λ j v. slot_rank d (slot_at o j) v low q) h))

  pub rank_before : (d : ℕ) (c : Change) (o : Table A) (low q : ℕ)
      → index_at d q < c.first / 2 ^ (9 * d)
      → table_rank d o c low q ≡ None
  rank_before d c o low q h = unmet_rank d (index_at d q) c o low q refl (unmet_before d (index_at d q) c h)

  pub rank_after : (d : ℕ) (c : Change) (o : Table A) (low q : ℕ)
      → 1 ≤ c.end
      → (c.end - 1) / 2 ^ (9 * d) + 1 ≤ index_at d q
      → table_rank d o c low q ≡ None
  rank_after d c o low q e h = unmet_rank d (index_at d q) c o low q refl (unmet_after d (index_at d q) c e h)

  -- of one that it does
  pub rank_met : (d i : ℕ) (c : Change) (o : Table A) (low q : ℕ)
      → IsChange d (part d i c)
      → index_at d q ≡ i
      → table_rank d o c low q
      ≡ later (sum_to (met d c (table_parts d o)) i) (slot_rank d (slot_at o i) (part d i c) low q)
  unfolding table_rank
  rank_met d i c o low q h x =
      rw x
      (ap (λ r. later (sum_to (met d c (table_parts d o)) i) r)
      (met_at_some d i c (λ j v. slot_rank d (slot_at o j) v low q) h))
