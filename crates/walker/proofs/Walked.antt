-- A table as a change goes on, slot by slot.
use Rattle.std.proofs.Common.{◌≡◌, ◌≢◌, ℕ, ◌+◌, ◌-◌, ◌*◌, ◌/◌, ◌^◌, ◌<◌, ◌≤◌, refl, sym, ap, arith, ◌∙◌, List, drop, take}
use Rattle.std.proofs.lemmas.List.{drop-drop}
use Rattle.page_state.specs.Counts.{frame_count}
use Rattle.page_state.proofs.Counts.{count_split}
use Rattle.page_state.proofs.Cases.{by_eq, by_lt}
use Rattle.table_tree.specs.declared.table.Table.{Table}
use Rattle.table_tree.specs.Meaning.{index_at, slot_at, entry_at}
use Rattle.table_tree.specs.Tables.{table_in}
use Rattle.table_tree.specs.Tight.{IsOneWordAt}
use Rattle.table_tree.proofs.PathNumbers.{index_same}
use Rattle.walk_plan.specs.declared.change.Change.{Change}
use Rattle.walk_plan.specs.Changes.{IsChange, part}
use Rattle.walk_plan.specs.inner.Needs.{sum_to, met, slot_need, table_parts}
use Rattle.walk_plan.specs.inner.Ranks.{given_rank, later, slot_rank, table_rank, slot_gone, gone_parts}
use Rattle.walk_plan.proofs.Ranges.{met_some, sum_next, table_parts_is}
use Rattle.walker.proofs.Ranks.{given_later, given_none, rank_before, rank_after, rank_met}

-- the tables of the slots before slot `i`, as far as no word can say what is there
pub IsKept : {A : Type 0} → ℕ → ℕ → Change → List ℕ → Table A → Table A → Type 0
IsKept d i c fs o t =
    (low q : ℕ)
    → low < d
    → index_at d q < i
    → (IsOneWordAt (low + 1) (entry_at d t) q → ⊥)
    → table_in d t low q ≡ given_rank fs (table_in d o low q) (table_rank d o c low q)

module _ {A : Type 0} where
  gone_parts_is : (d f : ℕ) (t : Table A) (i : ℕ) (c : Change) → gone_parts d t f i c ≡ slot_gone d (slot_at t i) c f
  unfolding gone_parts
  gone_parts_is d f t i c = refl

  -- the sums of needs and of frames that go, over one more part
  pub need_next : (d i : ℕ) (c : Change) (o : Table A)
      → IsChange d (part d i c)
      → sum_to (met d c (table_parts d o)) (i + 1)
      ≡ sum_to (met d c (table_parts d o)) i + slot_need d (slot_at o i) (part d i c)
  need_next d i c o h =
      sum_next (met d c (table_parts d o)) i
      ∙ ap (λ n. sum_to (met d c (table_parts d o)) i + n)
      (met_some d i c (table_parts d o) h ∙ table_parts_is d o i (part d i c))

  pub gone_next : (d i f : ℕ) (c : Change) (o : Table A)
      → IsChange d (part d i c)
      → sum_to (met d c (gone_parts d o f)) (i + 1)
      ≡ sum_to (met d c (gone_parts d o f)) i + slot_gone d (slot_at o i) (part d i c) f
  gone_next d i f c o h =
      sum_next (met d c (gone_parts d o f)) i
      ∙ ap (λ n. sum_to (met d c (gone_parts d o f)) i + n)
      (met_some d i c (gone_parts d o f) h ∙ gone_parts_is d f o i (part d i c))

  pub kept_start : (d : ℕ) (c : Change) (fs : List ℕ) (o : Table A) → IsKept d (c.first / 2 ^ (9 * d)) c fs o o
  unfolding IsKept
  kept_start d c fs o low q l x n =
      sym (given_none fs (table_in d o low q) (table_rank d o c low q) (rank_before d c o low q x))

  pub kept_next : (d i : ℕ) (c : Change) (o t u : Table A) (fs : List ℕ)
      → IsChange d (part d i c)
      → slot_at t i ≡ slot_at o i
      → IsKept d i c fs o t
      → ((low q : ℕ) → low < d → i ≤ index_at d q → table_in d t low q ≡ table_in d o low q)
      → ((low q : ℕ) → low < d → index_at d q ≡ i → (IsOneWordAt (low + 1) (entry_at d u) q → ⊥)
      → table_in d u low q
      ≡ given_rank (drop (sum_to (met d c (table_parts d o)) i) fs) (table_in d t low q)
      (slot_rank d (slot_at t i) (part d i c) low q))
      → ((low q : ℕ) → low < d → index_at d q ≢ i → table_in d u low q ≡ table_in d t low q)
      → ((q : ℕ) → index_at d q ≢ i → entry_at d u q ≡ entry_at d t q)
      → IsKept d (i + 1) c fs o u
  unfolding IsKept
  kept_next d i c o t u fs h slot before stand here aside other low q l x n =
      by_eq (index_at d q) i
      (λ y. here low q l y n
      ∙ given_later fs (sum_to (met d c (table_parts d o)) i) (table_in d t low q)
      (slot_rank d (slot_at t i) (part d i c) low q)
      ∙ ap
      (λ s. given_rank fs (table_in d t low q)
      (later (sum_to (met d c (table_parts d o)) i) (slot_rank d s (part d i c) low q))) slot
      ∙ ap (λ r. given_rank fs (table_in d t low q) r) (sym (rank_met d i c o low q h y))
      ∙ ap (λ a. given_rank fs a (table_rank d o c low q)) (stand low q l (omega (arith, y))))
      (λ y. aside low q l y
      ∙ before low q l (omega (arith, x, y))
      (λ a. n
      (record {
        entry = a.entry;
        fits = a.fits;
        along = λ p e. let z : index_at d p ≢ i =
            λ w. y (sym (index_same d low p q l e) ∙ w) in
            other p z ∙ a.along p e;
      })))

  pub kept_end : (d i : ℕ) (c : Change) (o t : Table A) (fs : List ℕ)
      → 1 ≤ c.end
      → (c.end - 1) / 2 ^ (9 * d) + 1 ≤ i
      → IsKept d i c fs o t
      → ((low q : ℕ) → low < d → i ≤ index_at d q → table_in d t low q ≡ table_in d o low q)
      → (low q : ℕ)
      → low < d
      → (IsOneWordAt (low + 1) (entry_at d t) q → ⊥)
      → table_in d t low q ≡ given_rank fs (table_in d o low q) (table_rank d o c low q)
  unfolding IsKept
  kept_end d i c o t fs some last before stand low q l n =
      by_lt (index_at d q) i
      (λ y. before low q l y n)
      (λ y. stand low q l y
      ∙ sym
      (given_none fs (table_in d o low q) (table_rank d o c low q)
      (rank_after d c o low q some (omega (arith, last, y)))))

-- the frames that are left and that were taken, over one more part
pub spare_next : (n m k : ℕ) (fs gs hs : List ℕ) → gs ≡ drop n fs → hs ≡ drop m gs → k ≡ n + m → hs ≡ drop k fs
spare_next n m k fs gs hs a b e = b ∙ ap (λ l. drop m l) a ∙ drop-drop m n fs ∙ ap (λ j. drop j fs) (sym e)

pub taken_next : (f n m k : ℕ) (fs gs : List ℕ)
    → gs ≡ drop n fs
    → k ≡ n + m
    → frame_count f (take k fs) ≡ frame_count f (take n fs) + frame_count f (take m gs)
taken_next f n m k fs gs a e =
    ap (λ j. frame_count f (take j fs)) e ∙ count_split f n m fs
    ∙ ap (λ l. frame_count f (take n fs) + frame_count f (take m l)) (sym a)
