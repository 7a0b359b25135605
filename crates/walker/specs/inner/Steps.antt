-- The effect of a change on one slot.
use Rattle.std.specs.Prelude.{◌≡◌, ◌≢◌, ℕ, ◌+◌, ◌*◌, ◌%◌, ◌<◌, ◌≤◌, ◌⊎◌, true, false, List, ◌∷◌, Option, IfSome, Some, None, drop, take, slice_set}
use Rattle.descriptor.specs.Word.{desc_of, IsEncodable}
use Rattle.page_state.specs.declared.entry.Entry.{Entry}
use Rattle.page_state.specs.Entries.{advance, entry_of_word, word_of_entry}
use Rattle.page_state.specs.Blocks.{fits_word}
use Rattle.page_state.specs.Geometries.{block_pages}
use Rattle.page_state.specs.Counts.{frame_count, is_one}
use Rattle.table_tree.specs.declared.table.Table.{Table}
use Rattle.table_tree.specs.declared.table.Slot.{Slot}
use Rattle.table_tree.specs.declared.table.Slot.TheVariants.{Word}
use Rattle.table_tree.specs.Meaning.{level_at, index_at, slot_at, slots_of, frame_of, word_entry, entry_at}
use Rattle.table_tree.specs.Shape.{HoldsWord, IsEntryWord, IsShaped}
use Rattle.table_tree.specs.Slots.{fresh}
use Rattle.table_tree.specs.Tables.{tables_in, uses_in, table_in}
use Rattle.table_tree.specs.Tight.{HasEntry, IsOneWord, IsTight}
use Rattle.table_tree.specs.Changes.{IsAttached, IsWritten}
use Rattle.walk_plan.specs.declared.change.Change.{Change}
use Rattle.walk_plan.specs.Changes.{IsChange, changed_entry, stays_one_word}
use Rattle.walk_plan.specs.inner.Needs.{slot_need, table_need}
use Rattle.walker.specs.declared.open.Found.{Found}
use Rattle.walker.specs.declared.open.Found.TheVariants.{Word as FoundWord, Opening}
use Rattle.walk_plan.specs.inner.Ranks.{is_folded, given_rank, slot_rank, table_rank, slot_gone, table_gone}

-- a slot holds the word that gives part `k` of a block whose first page has the entry `x`
unfoldable pub IsPart : {A : Type 0} → ℕ → Entry → ℕ → Slot A → Type 0
IsPart depth x k s =
    (w : ℕ)
    × (s ≡ Word w)
    × IsEntryWord depth w
    × (entry_of_word (desc_of (level_at depth) w) ≡ advance x (k * block_pages depth))

-- slot `i` holds a word and is one word after the change as well: the word `w`
pub record IsRewritten {A : Type 0} (depth i : ℕ) (t : Table A) (c : Change) (w : ℕ) : Type 0 where
  pub holds : HoldsWord (slot_at t i)
  pub word : IsEntryWord depth w
  pub map : (q : ℕ)
      → index_at depth q ≡ i
      → word_entry depth q w ≡ changed_entry depth (entry_at depth t) c q
  pub need : slot_need depth (slot_at t i) c ≡ 0
  pub rank : (low q : ℕ) → slot_rank depth (slot_at t i) c low q ≡ None
  pub gone : (f : ℕ) → slot_gone depth (slot_at t i) c f ≡ 0

-- a slot has a child, or a word that is not one word after the change
pub record IsOpening {A : Type 0} (depth : ℕ) (s : Slot A) (c : Change) : Type 0 where
  pub deep : 1 ≤ depth
  pub split : (w : ℕ)
      → s ≡ Word w
      → stays_one_word depth (entry_of_word (desc_of (level_at depth) w)) c ≡ false
  pub need : fresh s ≤ slot_need depth s c

-- the entry that the word of a slot gives the first page of its block; None if the slot has a child
pub record IsFirst {A : Type 0} (depth : ℕ) (s : Slot A) (first : Option Entry) : Type 0 where
  pub word : IfSome first
      (λ x. (w : ℕ) × (s ≡ Word w) × (x ≡ entry_of_word (desc_of (level_at depth) w)))
  pub said : IfSome first (λ x. IsEncodable (level_at depth) (word_of_entry x))
  pub child : first ≡ None → HoldsWord s → ⊥

-- the result of a look at slot `i`
abbrev pub IsFound : {A : Type 0} → ℕ → ℕ → Table A → Change → Found → Type 0
IsFound depth i t c (FoundWord w) = IsRewritten depth i t c w
IsFound depth i t c (Opening first) =
    IsOpening depth (slot_at t i) c × IsFirst depth (slot_at t i) first

-- the child of slot `i` of `t`, or the new table with the same meaning as the slot's word, is ready
-- for the change; `t` has depth `n` and they `d`
pub record IsReady {A : Type 0} (n d i : ℕ) (t child : Table A) (before after : List ℕ)
    (c : Change) : Type 0 where
  pub need : fresh (slot_at t i) + table_need d child c ≡ slot_need n (slot_at t i) c
  pub here : (q : ℕ)
      → index_at n q ≡ i
      → given_rank before (table_in n t d q) (slot_rank n (slot_at t i) c d q)
      ≡ Some (frame_of child)
  pub below : (low q : ℕ)
      → low < d
      → index_at n q ≡ i
      → given_rank after (table_in d child low q) (table_rank d child c low q)
      ≡ given_rank before (table_in n t low q) (slot_rank n (slot_at t i) c low q)
  pub stays : (f : ℕ)
      → is_folded n (entry_at d child) c ≡ false
      → slot_gone n (slot_at t i) c f ≡ table_gone d child c f
  pub goes : (f : ℕ)
      → is_folded n (entry_at d child) c ≡ true
      → slot_gone n (slot_at t i) c f ≡ table_gone d child c f + is_one (frame_of child) f

-- `child` is the child of slot `i` of `t`, or a new table with the same meaning as its word; `u` is
-- `t` without it
pub record IsOpened {A : Type 0} (n d i : ℕ) (t u child : Table A)
    (before after : List ℕ) : Type 0 where
  pub frame : frame_of u ≡ frame_of t
  pub slots : slots_of u ≡ slice_set (slots_of t) i (Word 0)
  pub shape : IsShaped n u
  pub tight : IsTight n u
  pub map_elsewhere : (q : ℕ) → index_at n q ≢ i → entry_at n u q ≡ entry_at n t q
  pub tables_elsewhere : (low q : ℕ)
      → low < n
      → index_at n q ≢ i
      → table_in n u low q ≡ table_in n t low q
  pub child_shape : IsShaped d child
  pub child_tight : IsTight d child
  pub map : (q : ℕ) → index_at n q ≡ i → entry_at d child q ≡ entry_at n t q
  pub uses : (f : ℕ)
      → uses_in n u f + uses_in d child f
      ≡ uses_in n t f + frame_count f (take (fresh (slot_at t i)) before)
  pub tables : tables_in n u + tables_in d child ≡ tables_in n t + fresh (slot_at t i)
  pub stock : after ≡ drop (fresh (slot_at t i)) before
  pub ready : (c : Change)
      → IsChange n c
      → IsOpening n (slot_at t i) c
      → IsReady n d i t child before after c

-- a table of words that gives the parts of a block whose first page has the entry `x`
pub record IsFilled {A : Type 0} (d : ℕ) (x : Entry) (t : Table A) : Type 0 where
  pub shape : IsShaped d t
  pub tight : IsTight d t
  pub map : (q : ℕ) → entry_at d t q ≡ advance x (q % block_pages (d + 1))
  pub uses : (f : ℕ) → uses_in d t f ≡ is_one (frame_of t) f
  pub tables : tables_in d t ≡ 1
  pub standing : (low q : ℕ) → low < d → table_in d t low q ≡ None
  pub parts : (k : ℕ) → k < 512 → IsPart d x k (slot_at t k)

-- a word one level up encodes the map of a table with `depth` levels below it
pub record IsEntryOfParts {A : Type 0} (depth : ℕ) (t : Table A) (word : ℕ) : Type 0 where
  pub said : IsEntryWord (depth + 1) word
  pub fits : fits_word (depth + 1) (entry_of_word (desc_of (level_at (depth + 1)) word)) ≡ true
  pub parts : (k : ℕ)
      → k < 512
      → HasEntry depth
      (advance (entry_of_word (desc_of (level_at (depth + 1)) word)) (k * block_pages depth))
      (slot_at t k)

-- slot `i` of `u`, which is otherwise `t`, has the word that encodes the map of the child; the
-- child's frame is put in front
pub record IsFoldedIn {A : Type 0} (depth i : ℕ) (t u child : Table A)
    (before after : List ℕ) : Type 0 where
  pub word : ℕ
  pub says : IsEntryOfParts depth child word
  pub written : IsWritten i word t u
  pub here : slot_at u i ≡ Word word
  pub freed : after ≡ frame_of child ∷ before

-- no word encodes the child's map, and the child is back in its slot
pub record IsPutIn {A : Type 0} (depth i : ℕ) (t u child : Table A)
    (before after : List ℕ) : Type 0 where
  pub none : IsOneWord depth child → ⊥
  pub attached : IsAttached i t u child
  pub freed : after ≡ before

-- one of the two
abbrev pub IsPutBack : {A : Type 0} → ℕ → ℕ → Table A → Table A → Table A → List ℕ → List ℕ → Type 0
IsPutBack depth i t u child before after =
    IsFoldedIn depth i t u child before after ⊎ IsPutIn depth i t u child before after
