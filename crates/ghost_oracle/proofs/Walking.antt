-- A walk's step over one slot.
use Rattle.std.proofs.Common.{◌≡◌, ℕ, ◌+◌, ◌-◌, ◌*◌, ◌^◌, ◌<◌, ◌≤◌, min, sum_by, take, List, ◌∷◌, ◌++◌, sym, ap, subst, ◌∙◌, arith}
use Rattle.std.proofs.lemmas.List.{append_assoc}
use Rattle.std.specs.declared.boxed.Box.{Box}
use Rattle.descriptor.specs.Word.{desc_of}
use Rattle.page_state.specs.declared.entry.Entry.{Entry}
use Rattle.page_state.specs.Entries.{advance, entry_of_word}
use Rattle.page_state.specs.Geometries.{block_pages}
use Rattle.page_state.specs.Map.{Map}
use Rattle.table_tree.specs.declared.table.Table.{Table}
use Rattle.table_tree.specs.declared.table.Slot.{Slot}
use Rattle.table_tree.specs.declared.table.Slot.TheVariants.{Word, Child}
use Rattle.table_tree.specs.Changes.{IsSeen}
use Rattle.table_tree.specs.Meaning.{level_at, entry_at, slot_at, slots_of}
use Rattle.table_tree.specs.Slots.{slot_tables}
use Rattle.ghost_trees.specs.declared.tree.Table.{Table as FoundTable}
use Rattle.ghost_oracle.specs.inner.Walking.{GoesOn, found_at, found_under}
use Rattle.ghost_oracle.proofs.FoundTables.{found_before, before_word, before_child}
use Rattle.ghost_oracle.proofs.Places.{index_in, rest_in, on_twice, first_part, part_ends}
use Rattle.page_state.proofs.Sizes.{size_some}

module _ {A : Type 0} (n i : ℕ) (t : Table A) (s : Slot A) (inside : i < 512) (seen : IsSeen i t s) (old mid new : Map)
    (a : ℕ) where
  -- a word's pages
  pub word_goes_on : (d w : ℕ) (e : Entry)
      → s ≡ Word w
      → e ≡ entry_of_word (desc_of (level_at d) w)
      → a ≤ (n * 512 + i) * block_pages d
      → GoesOn (entry_at d t) a ((n * 512 + i) * block_pages d) old mid
      → GoesOn (λ p. advance e (p - (n * 512 + i) * block_pages d)) ((n * 512 + i) * block_pages d)
      ((n * 512 + i) * block_pages d + block_pages d) mid new
      → GoesOn (entry_at d t) a ((n * 512 + (i + 1)) * block_pages d) old new
  word_goes_on d w e is gives order f g =
      let same : (p : ℕ) → (n * 512 + i) * block_pages d ≤ p → p < (n * 512 + i) * block_pages d + block_pages d → advance e (p - (n * 512 + i) * block_pages d) ≡ entry_at d t p =
      λ p h k.
      let l : p < (n * 512 + i + 1) * block_pages d = omega arith in
      ap (λ x. advance x (p - (n * 512 + i) * block_pages d)) gives
      ∙ ap (advance (entry_of_word (desc_of (level_at d) w)))
      (sym (rest_in (block_pages d) (n * 512 + i) p (size_some d) h l))
      ∙ sym (seen.word w d p is (index_in d n i p inside h l)) in
      let ends : (n * 512 + i) * block_pages d + block_pages d ≡ (n * 512 + (i + 1)) * block_pages d = omega arith in
      subst (λ c. GoesOn (entry_at d t) a c old new) ends
      (on_twice (entry_at d t) (λ p. advance e (p - (n * 512 + i) * block_pages d)) old mid new a
      ((n * 512 + i) * block_pages d) ((n * 512 + i) * block_pages d + block_pages d) order same f g)

  child_on : (m : ℕ) (b : Box (Table A) A) → s ≡ Child b → a ≤ (n * 512 + i) * block_pages (m + 1)
      → GoesOn (entry_at (m + 1) t) a ((n * 512 + i) * block_pages (m + 1)) old mid
      → GoesOn (entry_at m b.value) ((n * 512 + i) * block_pages (m + 1))
      ((n * 512 + i + 1) * block_pages (m + 1)) mid new
      → GoesOn (entry_at (m + 1) t) a ((n * 512 + (i + 1)) * block_pages (m + 1)) old new
  child_on m b is order f g =
      let same : (p : ℕ) → (n * 512 + i) * block_pages (m + 1) ≤ p → p < (n * 512 + i + 1) * block_pages (m + 1) → entry_at m b.value p ≡ entry_at (m + 1) t p =
      λ p h k. sym (seen.child b m p is (index_in (m + 1) n i p inside h k)) in
      let ends : (n * 512 + i + 1) * block_pages (m + 1) ≡ (n * 512 + (i + 1)) * block_pages (m + 1) = omega arith in
      subst (λ c. GoesOn (entry_at (m + 1) t) a c old new) ends
      (on_twice (entry_at (m + 1) t) (entry_at m b.value) old mid new a ((n * 512 + i) * block_pages (m + 1))
      ((n * 512 + i + 1) * block_pages (m + 1)) order same f g)

  -- a child's pages
  pub child_goes_on : (d : ℕ) (b : Box (Table A) A) → 1 ≤ d → s ≡ Child b → a ≤ (n * 512 + i) * block_pages d
      → GoesOn (entry_at d t) a ((n * 512 + i) * block_pages d) old mid
      → GoesOn (entry_at (d - 1) b.value) ((n * 512 + i) * block_pages (d - 1 + 1))
      ((n * 512 + i + 1) * block_pages (d - 1 + 1)) mid new
      → GoesOn (entry_at d t) a ((n * 512 + (i + 1)) * block_pages d) old new
  child_goes_on d b k is =
      let e : d - 1 + 1 ≡ d = omega arith in
      subst (λ x. a ≤ (n * 512 + i) * block_pages x
      → GoesOn (entry_at x t) a ((n * 512 + i) * block_pages x) old mid
      → GoesOn (entry_at (d - 1) b.value) ((n * 512 + i) * block_pages (d - 1 + 1))
      ((n * 512 + i + 1) * block_pages (d - 1 + 1)) mid new
      → GoesOn (entry_at x t) a ((n * 512 + (i + 1)) * block_pages x) old new) e (child_on (d - 1) b is)

-- a block's first page is before its parts
pub starts_before : (d n i : ℕ) → n * block_pages (d + 1) ≤ (n * 512 + i) * block_pages d
starts_before d n i = let e = first_part d n in omega (arith, e)

pub ends_last : (d n i : ℕ) → i ≤ 512 → 512 ≤ i → (n * 512 + i) * block_pages d ≡ (n + 1) * block_pages (d + 1)
ends_last d n i p q = let k : n * 512 + i ≡ (n + 1) * 512 = omega arith in
    let e : (n + 1) * block_pages (d + 1) ≡ (n + 1) * 512 * block_pages d = first_part d (n + 1) in
    ap (λ m. m * block_pages d) k ∙ sym e

pub starts_first : (d n : ℕ) → n * block_pages (d + 1) ≡ (n * 512 + 0) * block_pages d
starts_first d n = first_part d n ∙ ap (λ m. m * block_pages d) (omega arith)

pub child_place : (d n i : ℕ)
    → 1 ≤ d
    → i < 512
    → (n + 1) * block_pages (d + 1) ≤ 2 ^ 36
    → (n * 512 + i + 1) * block_pages (d - 1 + 1) ≤ 2 ^ 36
child_place d n i k h p = let e : d - 1 + 1 ≡ d = omega arith in let m = part_ends d n i h in rw e (omega (arith, m, p))

pub word_ends : (d n i s : ℕ) → s ≡ block_pages d → (n * 512 + i) * s + s ≡ (n * 512 + (i + 1)) * block_pages d
word_ends d n i s e = rw e (omega arith)

pub child_ends : (d n i : ℕ) → 1 ≤ d → (n * 512 + i + 1) * block_pages (d - 1 + 1) ≡ (n * 512 + (i + 1)) * block_pages d
child_ends d n i k = let e : d - 1 + 1 ≡ d = omega arith in rw e (omega arith)

-- the number of tables below the first slots
abbrev pub slots_before : {A : Type 0} → ℕ → Table A → ℕ → ℕ
slots_before d t i = sum_by (slot_tables d) (take i (slots_of t))

-- the tables found
module _ {A : Type 0} (d n i : ℕ) (t : Table A) (s : Slot A) (at : s ≡ slot_at t i) (old mid : List FoundTable)
    (so_far : mid ≡ old ++ (found_at d n t ∷ found_before d n t i)) where
  pub tables_word : (w : ℕ) → s ≡ Word w → mid ≡ old ++ (found_at d n t ∷ found_before d n t (i + 1))
  tables_word w e = so_far ∙ ap (λ xs. old ++ (found_at d n t ∷ xs)) (sym (before_word d n i w t s at e))

  pub tables_child : (b : Box (Table A) A) (new : List FoundTable)
      → 1 ≤ d
      → s ≡ Child b
      → new ≡ mid ++ found_under (d - 1) (n * 512 + i) b.value
      → new ≡ old ++ (found_at d n t ∷ found_before d n t (i + 1))
  tables_child b new k e f = f ∙ ap (λ xs. xs ++ found_under (d - 1) (n * 512 + i) b.value) so_far
      ∙ append_assoc old (found_at d n t ∷ found_before d n t i) (found_under (d - 1) (n * 512 + i) b.value)
      ∙ ap (λ xs. old ++ (found_at d n t ∷ xs)) (sym (before_child d n i t b s k at e))

-- counts that stop at the greatest number
pub read_one : (old cur new i x y m : ℕ)
    → new ≡ min (cur + 1) m
    → min cur m ≡ min (old + i + 512 * x) m
    → y ≡ x
    → min new m ≡ min (old + (i + 1) + 512 * y) m
read_one old cur new i x y m e f g = omega arith

pub read_more : (old cur mid new i x y c m : ℕ)
    → mid ≡ min (cur + 1) m
    → new ≡ min (mid + 512 * c) m
    → min cur m ≡ min (old + i + 512 * x) m
    → y ≡ x + c
    → min new m ≡ min (old + (i + 1) + 512 * y) m
read_more old cur mid new i x y c m e h f g = omega arith

pub read_all : (old cur i x c m : ℕ)
    → i ≤ 512
    → 512 ≤ i
    → cur ≤ m
    → min cur m ≡ min (old + i + 512 * x) m
    → 1 + x ≡ c
    → cur ≡ min (old + 512 * c) m
read_all old cur i x c m p q l e f = omega arith
