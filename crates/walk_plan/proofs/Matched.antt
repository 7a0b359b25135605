-- A map and tables as a slot, a table or a word of a tree shows them in a block.
use Rattle.std.proofs.Common.{◌≡◌, ℕ, zero, suc, ◌+◌, ◌-◌, ◌*◌, ◌<◌, ◌≤◌, refl, sym, ap, arith, ◌∙◌, true, false, nat_lt, Option, Some, None, mul-le-mul_right}
use Rattle.std.proofs.lemmas.Bool.Decides.{nat_tests}
use Rattle.std.specs.declared.boxed.Box.{Box}
use Rattle.descriptor.specs.Word.{desc_of}
use Rattle.page_state.specs.declared.entry.Entry.{Entry}
use Rattle.page_state.specs.declared.entry.Entry.TheVariants.{Unmapped}
use Rattle.page_state.specs.Entries.{advance, entry_of_word}
use Rattle.page_state.specs.Map.{Map}
use Rattle.page_state.specs.Trees.{Block}
use Rattle.page_state.specs.Geometries.{levels_below, input_pages, block_pages}
use Rattle.page_state.proofs.Sizes.{size_step, size_some}
use Rattle.page_state.proofs.Entries.{advance-more}
use Rattle.table_tree.specs.declared.table.Table.{Table}
use Rattle.table_tree.specs.declared.table.Slot.{Slot}
use Rattle.table_tree.specs.declared.table.Slot.TheVariants.{Word, Child}
use Rattle.table_tree.specs.declared.tree.Tree.{Tree}
use Rattle.table_tree.specs.Meaning.{level_at, index_at, slot_at, entry_at, frame_of}
use Rattle.table_tree.specs.Tables.{table_in}
use Rattle.table_tree.specs.Slots.{slot_entry, slot_table}
use Rattle.table_tree.specs.View.{meaning, table_at}
use Rattle.table_tree.proofs.Slots.{by_slot}
use Rattle.table_tree.proofs.Steps.{entry_step, word_gives, child_gives}
use Rattle.table_tree.proofs.Standing.{table_top, table_below, stand_word, stand_child}
use Rattle.walk_plan.proofs.Numbers.{index_in, place_in, from_part}
use Rattle.table_tree.specs.Roots.{map_under, table_under}

-- on a block, the map is `entry`, and the tables with fewer than `k` levels below them stand as `table` says
pub record Matches (m : Map) (ts : Block → Option ℕ) (k d b : ℕ) (entry : ℕ → Entry)
    (table : ℕ → ℕ → Option ℕ) : Type 0 where
  pub map : (q : ℕ) → b * block_pages d ≤ q → q < b * block_pages d + block_pages d → m q ≡ entry q
  pub tables : (low j : ℕ)
      → low < k
      → b * block_pages d ≤ j * block_pages (suc low)
      → j * block_pages (suc low) < b * block_pages d + block_pages d
      → ts (suc low, j) ≡ table low (j * block_pages (suc low))

-- a block without a table, whose first page has the entry
abbrev pub IsBare : Map → (Block → Option ℕ) → ℕ → ℕ → Entry → Type 0
IsBare m ts d b x = Matches m ts d d b (λ q. advance x (q - b * block_pages d)) (λ low q. None)

to_part : (s z b i x : ℕ) → z ≡ 512 * s → i < 512 → x < (512 * b + i) * s + s → x < b * z + z
to_part s z b i x e p h = let q : i + 1 ≤ 512 = omega arith in let y = mul-le-mul_right s q in rw e (omega (arith, y))

part_gap : (s z b i q : ℕ) → z ≡ 512 * s → (512 * b + i) * s ≤ q → i * s + (q - (512 * b + i) * s) ≡ q - b * z
part_gap s z b i q e h = rw e (omega arith)

module _ (m : Map) (ts : Block → Option ℕ) where
  -- a part of a block, with all its tables
  pub match_part : (d b i : ℕ) (e : ℕ → Entry) (f : ℕ → ℕ → Option ℕ) (k : ℕ)
      → i < 512
      → d ≤ k
      → Matches m ts k (suc d) b e f
      → Matches m ts d d (512 * b + i) e f
  match_part d b i e f k p le h = record {
    map =
        λ q x y. h.map q (from_part (block_pages d) (block_pages (suc d)) b i q (size_step d) x)
        (to_part (block_pages d) (block_pages (suc d)) b i q (size_step d) p y);
    tables =
        λ low j l x y. h.tables low j (omega arith)
        (from_part (block_pages d) (block_pages (suc d)) b i _ (size_step d) x)
        (to_part (block_pages d) (block_pages (suc d)) b i _ (size_step d) p y);
  }

  pub bare_part : (d b i : ℕ) (x : Entry)
      → i < 512
      → IsBare m ts (suc d) b x
      → IsBare m ts d (512 * b + i) (advance x (i * block_pages d))
  bare_part d b i x p h =
      let r =
      match_part d b i (λ q. advance x (q - b * block_pages (suc d))) (λ low q. None) (suc d) p (omega arith) h in
      record {
        map =
            λ q l u. r.map q l u
            ∙ sym
            (advance-more x (i * block_pages d) (q - (512 * b + i) * block_pages d)
            ∙ ap (λ z. advance x z) (part_gap (block_pages d) (block_pages (suc d)) b i q (size_step d) l));
        tables = r.tables;
      }

  pub bare_map : (d b : ℕ) (x : Entry)
      → IsBare m ts d b x
      → (i : ℕ)
      → i < block_pages d
      → m (b * block_pages d + i) ≡ advance x i
  bare_map d b x h i p = let e : b * block_pages d + i - b * block_pages d ≡ i = omega arith in
      h.map (b * block_pages d + i) (omega arith) (omega arith) ∙ ap (λ z. advance x z) e

  pub bare_here : (d b : ℕ) (x : Entry) → IsBare m ts (suc d) b x → ts (suc d, b) ≡ None
  bare_here d b x h = let s = size_some (suc d) in h.tables d b (omega arith) (omega arith) (omega arith)

  module _ {A : Type 0} where
    pub match_slot : (d b i : ℕ) (t : Table A)
        → i < 512
        → Matches m ts d (suc d) b (entry_at d t) (table_in d t)
        → Matches m ts d d (512 * b + i) (slot_entry d (slot_at t i)) (slot_table d (slot_at t i))
    match_slot d b i t p h =
        let r = match_part d b i (entry_at d t) (table_in d t) d p (omega arith) h in
        record {
          map =
              λ q l u. r.map q l u ∙ entry_step d t q ∙ ap (λ j. slot_entry d (slot_at t j) q) (index_in d b i q p l u);
          tables = λ low j k l u. let apart : low ≡ d → ⊥ = λ e. omega arith in
              r.tables low j k l u ∙ table_below d low t (j * block_pages (suc low)) apart
              ∙ ap (λ z. slot_table d (slot_at t z) low (j * block_pages (suc low)))
              (index_in d b i (j * block_pages (suc low)) p l u);
        }

    pub match_child : (d b : ℕ) (s : Slot A) (x : Box (Table A) A)
        → s ≡ Child x
        → Matches m ts (suc d) (suc d) b (slot_entry (suc d) s) (slot_table (suc d) s)
        → Matches m ts d (suc d) b (entry_at d x.value) (table_in d x.value)
    match_child d b s x e h = record {
      map = λ q l u. h.map q l u ∙ child_gives (suc d) d q x s refl e;
      tables =
          λ low j k l u. h.tables low j (omega arith) l u
          ∙ stand_child (suc d) d low (j * block_pages (suc low)) x s refl e;
    }

    pub child_here : (d b : ℕ) (s : Slot A) (x : Box (Table A) A)
        → s ≡ Child x
        → Matches m ts (suc d) (suc d) b (slot_entry (suc d) s) (slot_table (suc d) s)
        → ts (suc d, b) ≡ Some (frame_of x.value)
    child_here d b s x e h =
        let z = size_some (suc d) in
        h.tables d b (omega arith) (omega arith) (omega arith)
        ∙ stand_child (suc d) d d (b * block_pages (suc d)) x s refl e
        ∙ table_top d d x.value (b * block_pages (suc d)) refl

    pub match_word : (d b w : ℕ) (s : Slot A)
        → s ≡ Word w
        → Matches m ts d d b (slot_entry d s) (slot_table d s)
        → IsBare m ts d b (entry_of_word (desc_of (level_at d) w))
    match_word d b w s e h = record {
      map =
          λ q l u. h.map q l u ∙ word_gives d q w s e
          ∙ ap (λ z. advance (entry_of_word (desc_of (level_at d) w)) z) (place_in d b q l u);
      tables = λ low j k l u. h.tables low j k l u ∙ stand_word d w low (j * block_pages (suc low)) s e;
    }

-- a tree, in the block of all input pages
module _ {A : Type 0} (t : Tree A) where
  pub meaning_in : (q : ℕ) → q < input_pages t.geometry → meaning t q ≡ entry_at (levels_below t.geometry) t.table q
  unfolding meaning map_under
  meaning_in q h = let e : nat_lt q (input_pages t.geometry) ≡ true = grind (arith, nat_tests) in rw e refl

  pub table_at_in : (low j : ℕ)
      → j * block_pages (suc low) < input_pages t.geometry
      → table_at t (suc low) j ≡ table_in (levels_below t.geometry) t.table low (j * block_pages (suc low))
  unfolding table_at table_under
  table_at_in low j h = let e : nat_lt (j * block_pages (suc low)) (input_pages t.geometry) ≡ true =
      grind (arith, nat_tests) in
      rw e refl

  pub all_pages : input_pages t.geometry ≡ block_pages (suc (levels_below t.geometry))
  all_pages = let e : levels_below t.geometry + 1 ≡ suc (levels_below t.geometry) = omega arith in
      ap (λ d. block_pages d) e

  pub match_tree : Matches (meaning t) (λ b. table_at t b.0 b.1) (levels_below t.geometry)
      (suc (levels_below t.geometry)) 0 (entry_at (levels_below t.geometry) t.table)
      (table_in (levels_below t.geometry) t.table)
  match_tree = record {
    map = λ q l u. let e = all_pages in meaning_in q (omega arith);
    tables = λ low j k l u. let e = all_pages in table_at_in low j (omega arith);
  }

-- no table stands deeper than the root
slot_none : {A : Type 0} (low q : ℕ) (s : Slot A) → slot_table 0 s low q ≡ None
unfolding slot_table
slot_none low q s = refl

pub table_deep : {A : Type 0} (n low q : ℕ) (t : Table A) → n < low → table_in n t low q ≡ None
table_deep zero low q t h = table_below zero low t q (λ e. omega arith) ∙ slot_none low q (slot_at t (index_at 0 q))
table_deep (suc n) low q t h =
    let s = slot_at t (index_at (suc n) q) in
    table_below (suc n) low t q (λ e. omega arith)
    ∙ by_slot s (λ w e. stand_word (suc n) w low q s e)
    (λ b e. stand_child (suc n) n low q b s refl e ∙ table_deep n low q b.value (omega arith))

-- past the input pages
module _ {A : Type 0} (t : Tree A) where
  pub meaning_past : (q : ℕ) → input_pages t.geometry ≤ q → meaning t q ≡ Unmapped
  unfolding meaning map_under
  meaning_past q h = let e : nat_lt q (input_pages t.geometry) ≡ false = grind (arith, nat_tests) in rw e refl

  pub table_past : (low j : ℕ) → input_pages t.geometry ≤ j * block_pages (suc low) → table_at t (suc low) j ≡ None
  unfolding table_at table_under
  table_past low j h = let e : nat_lt (j * block_pages (suc low)) (input_pages t.geometry) ≡ false =
      grind (arith, nat_tests) in
      rw e refl

  pub table_page : (j : ℕ) → table_at t 0 j ≡ None
  unfolding table_at table_under
  table_page j = refl
