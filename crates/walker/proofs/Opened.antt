-- What a slot needs by a change, and what a change finds in its child.
use Rattle.std.proofs.Common.{◌≡◌, ◌≢◌, ℕ, zero, suc, ◌+◌, ◌-◌, ◌%◌, ◌^◌, ◌<◌, ◌≤◌, refl, sym, ap, subst, arith, ◌∙◌, cond, true, false, ◌==◌, Option, Some, None, List, [], ◌∷◌, length, add-one}
use Rattle.std.specs.Prelude.{Bool}
use Rattle.std.specs.Option.{MatchOption, IsSome, IfSome, is_some}
use Rattle.std.proofs.lemmas.Bool.Decides.{nat_tests}
use Rattle.std.proofs.Math.ListN.{set}
use Rattle.std.specs.declared.boxed.Box.{Box}
use Rattle.descriptor.specs.Word.{desc_of}
use Rattle.page_state.specs.declared.entry.Entry.{Entry}
use Rattle.page_state.specs.declared.entry.Entry.TheVariants.{Malformed, Unmapped, Annotated, Leaf}
use Rattle.page_state.specs.Entries.{advance, IsRangeEntry, entry_of_word}
use Rattle.page_state.specs.Blocks.{fits_word}
use Rattle.page_state.specs.Geometries.{block_pages}
use Rattle.page_state.proofs.Common.{eq-made, eq-other}
use Rattle.table_tree.specs.declared.table.Table.{Table}
use Rattle.table_tree.specs.declared.table.Slot.{Slot}
use Rattle.table_tree.specs.declared.table.Slot.TheVariants.{Word, Child}
use Rattle.table_tree.specs.Meaning.{level_at, index_at, slot_at, slots_of, slot_case, frame_of, word_entry, entry_at}
use Rattle.table_tree.specs.Shape.{IsEntryWord, IsShaped}
use Rattle.table_tree.specs.Tables.{table_in}
use Rattle.table_tree.specs.Tight.{IsTight}
use Rattle.table_tree.specs.Changes.{IsSeen, IsWritten, IsAttached, IsCleared}
use Rattle.table_tree.proofs.Slots.{case_word, case_child}
use Rattle.table_tree.proofs.Standing.{table_top}
use Rattle.table_tree.proofs.Words.{zero_said}
use Rattle.table_tree.proofs.Sums.{fresh_word, fresh_child}
use Rattle.walk_plan.specs.declared.change.Change.{Change}
use Rattle.walk_plan.specs.Changes.{IsChange, changed_entry, stays_one_word}
use Rattle.walk_plan.specs.inner.Needs.{block_need}
use Rattle.walk_plan.specs.inner.Ranks.{given_rank, later, block_rank, parts_rank, slot_rank}
use Rattle.walk_plan.proofs.Ranges.{block_one, block_split, slot_word, slot_child}
use Rattle.walk_plan.proofs.Seen.{seen_deep}
use Rattle.walk_plan.proofs.Ranked.{rank_child}
use Rattle.walker.specs.inner.Steps.{IsRewritten, IsOpening, IsFilled, IsReady, IsOpened}
use Rattle.walker.proofs.Maps.{changed_at}
use Rattle.walker.proofs.Ranks.{given_later, given_some, block_rank_one, block_rank_split, slot_rank_word}
use Rattle.walker.proofs.Parts.{parts_need, parts_ranked, parts_gone, gone_word, gone_child}
use Rattle.walker.proofs.Folded.{split_not}

-- at the last level each change leaves one word
can_last : (n : ℕ) (e : Entry) → 1 ≤ n → IsRangeEntry n e → fits_word 0 e ≡ true
can_last n Malformed p h = absurd h
can_last n Unmapped p h = refl
can_last n (Annotated o) p h = let a = h.0 in let b = h.1 in grind (arith, nat_tests)
can_last n (Leaf f r k s) p h = let a : f.0 < 2 ^ 36 = omega arith in
    let b : f.0 % 1 ≡ 0 = omega arith in
    grind (arith, nat_tests)

zero_word : (x : Entry) (c : Change) → IsChange 0 c → stays_one_word 0 x c ≡ true
zero_word x c h =
    let some = h.some in
    let within : c.end ≤ 1 = h.within in
    let k = can_last (c.end - c.first) c.entry (omega arith) h.entry in
    let a : (c.first == 0) ≡ true = let z : c.first ≡ 0 = omega arith in grind (arith, nat_tests) in
    let b : (c.end == 1) ≡ true = let z : c.end ≡ 1 = omega arith in grind (arith, nat_tests) in rw (a, b, k) refl

pub false_true : {P : Type 0} (b : Bool) → b ≡ true → b ≡ false → P
false_true true e f = absurd (cc)
false_true false e f = absurd (cc)

from_one : (d : ℕ) (x : Entry) (c : Change) → IsChange d c → stays_one_word d x c ≡ false → 1 ≤ d
from_one zero x c h z = false_true _ (zero_word x c h) z
from_one (suc d) x c h z = omega arith

-- a stock that is long enough has a first table
pub popped_some : {X : Type 0} (r : Option X) (fs : List ℕ) (P : X → Type 0)
    → MatchOption r (fs ≡ []) P
    → 1 ≤ length fs
    → IsSome r
popped_some None fs P h p = absurd (let e : length fs ≡ 0 = ap length h in omega arith)
popped_some (Some x) fs P h p = refl

module _ {A : Type 0} where
  -- the word of a slot, and which of the two it is
  word_of_slot : Slot A → ℕ
  word_of_slot s = slot_case (λ a. a) (λ _. 0) s

  kind_of_slot : Slot A → ℕ
  kind_of_slot s = slot_case (λ _. 0) (λ _. 1) s

  pub same_word : (w v : ℕ) (s : Slot A) → s ≡ Word w → s ≡ Word v → w ≡ v
  unfolding word_of_slot
  same_word w v s x y =
      let a : word_of_slot s ≡ w = ap word_of_slot x ∙ case_word {A = A} {R = ℕ} (λ a. a) (λ _. 0) w in
      let b : word_of_slot s ≡ v = ap word_of_slot y ∙ case_word {A = A} {R = ℕ} (λ a. a) (λ _. 0) v in
      sym a ∙ b

  pub word_not_child : (w : ℕ) (b : Box (Table A) A) (s : Slot A) → s ≡ Word w → s ≡ Child b → ⊥
  unfolding kind_of_slot
  word_not_child w b s x y =
      let a : kind_of_slot s ≡ 0 = ap kind_of_slot x ∙ case_word {A = A} {R = ℕ} (λ _. 0) (λ _. 1) w in
      let e : kind_of_slot s ≡ 1 = ap kind_of_slot y ∙ case_child {A = A} {R = ℕ} (λ _. 0) (λ _. 1) b in
      absurd (omega (arith, a, e))

  -- a word that a change leaves one word
  pub rewritten : (d i w v : ℕ) (t : Table A) (c : Change)
      → slot_at t i ≡ Word w
      → IsSeen i t (slot_at t i)
      → stays_one_word d (entry_of_word (desc_of (level_at d) w)) c ≡ true
      → IsEntryWord d v
      → ((q : ℕ) → word_entry d q v ≡ changed_entry d (λ p. word_entry d p w) c q) → IsRewritten d i t c v
  rewritten d i w v t c e h one said map = record {
    holds = (w, e);
    word = said;
    map = λ q x. map q ∙ changed_at d (λ p. word_entry d p w) (entry_at d t) c q (sym (h.word w d q e x));
    need = slot_word d w (slot_at t i) c e ∙ block_one d (entry_of_word (desc_of (level_at d) w)) c one;
    rank =
        λ low q. slot_rank_word d w (slot_at t i) c low q e
        ∙ block_rank_one d (entry_of_word (desc_of (level_at d) w)) c low q one;
    gone = λ f. gone_word d w f (slot_at t i) c e;
  }

  pub some_rewritten : (r : Option ℕ) (d i w : ℕ) (t : Table A) (c : Change)
      → slot_at t i ≡ Word w
      → IsSeen i t (slot_at t i)
      → is_some r ≡ stays_one_word d (entry_of_word (desc_of (level_at d) w)) c
      → IfSome r (λ v. IsEntryWord d v)
      → IfSome r (λ v. (q : ℕ) → word_entry d q v ≡ changed_entry d (λ p. word_entry d p w) c q)
      → IfSome r (λ v. IsRewritten d i t c v)
  some_rewritten None d i w t c e h one said map = tt
  some_rewritten (Some v) d i w t c e h one said map = rewritten d i w v t c e h (sym one) said map

  -- a word that it splits
  pub opening_word : (d w : ℕ) (s : Slot A) (c : Change)
      → s ≡ Word w
      → IsChange d c
      → stays_one_word d (entry_of_word (desc_of (level_at d) w)) c ≡ false
      → IsOpening d s c
  opening_word d w s c e h z =
      let x = entry_of_word (desc_of (level_at d) w) in
      let k = from_one d x c h z in
      let n = slot_word d w s c e ∙ block_split d x c k z in
      let f = fresh_word w s e in
      record {
        deep = k;
        split =
            λ v y. subst (λ n. stays_one_word d (entry_of_word (desc_of (level_at d) n)) c ≡ false)
            (same_word w v s e y) z;
        need = omega (arith, n, f);
      }

  pub opening_child : (d i : ℕ) (t : Table A) (b : Box (Table A) A) (s : Slot A) (c : Change)
      → s ≡ Child b
      → IsSeen i t s
      → IsShaped d t
      → IsOpening d s c
  opening_child d i t b s c e h x =
      let f = fresh_child b s e in
      record {
        deep = seen_deep d i t s b h e x;
        split = λ w y. absurd (word_not_child w b s y e);
        need = omega (arith, f);
      }

  -- the child of a slot
  ready_child : (d i : ℕ) (t : Table A) (b : Box (Table A) A) (fs : List ℕ) (c : Change)
      → slot_at t i ≡ Child b
      → ((low q : ℕ) → low ≤ d → index_at (suc d) q ≡ i → table_in (suc d) t low q ≡ table_in d b.value low q)
      → IsReady (suc d) d i t b.value fs fs c
  ready_child d i t b fs c e stand =
      let z = fresh_child b (slot_at t i) e in
      let k : 1 ≤ suc d = omega arith in
      let g = λ (f : ℕ). gone_child d f b (slot_at t i) c e in
      record {
        need = let o : suc d - 1 ≡ d = omega arith in
            let n = rw o at (slot_child (suc d) b (slot_at t i) c k e) in
            omega (arith, z, n);
        here =
            λ q x. given_some fs (table_in (suc d) t d q) (slot_rank (suc d) (slot_at t i) c d q) (frame_of b.value)
            (stand d q (omega arith) x ∙ table_top d d b.value q refl);
        below = λ low q l x. rw (stand low q (omega arith) x, rank_child d b (slot_at t i) c low q e) refl;
        stays = λ f y. g f ∙ rw y (omega arith);
        goes = λ f y. g f ∙ rw y (omega arith);
      }

  pub opened_child : (d i : ℕ) (t u : Table A) (b : Box (Table A) A) (fs : List ℕ)
      → slot_at t i ≡ Child b
      → IsAttached i u t b.value
      → IsCleared t u
      → slots_of u ≡ set (slots_of t) i (Word 0)
      → frame_of u ≡ frame_of t
      → IsShaped (suc d) t → IsTight (suc d) t → IsOpened (suc d) d i t u b.value fs fs
  opened_child d i t u b fs e h rest slots frame shape tight =
      let o : d + 1 ≡ suc d = add-one d in
      let z = fresh_child b (slot_at t i) e in
      let map = rw o at (h.map d) in
      let stand = rw o at (h.standing d) in
      let here : (low q : ℕ) → low ≤ d → index_at (suc d) q ≡ i → table_in (suc d) t low q ≡ table_in d b.value low q =
      λ low q l x. stand low q l
      ∙ ap (λ a. cond a (table_in d b.value low q) (table_in (suc d) u low q))
      (eq-made (index_at (suc d) q) i x) in
      record {
        frame = frame;
        slots = slots;
        shape = rest.shape (suc d) shape;
        tight = rest.tight (suc d) tight;
        map_elsewhere =
            λ q x. sym
            (map q
            ∙ ap (λ a. cond a (entry_at d b.value q) (entry_at (suc d) u q))
            (eq-other (index_at (suc d) q) i x));
        tables_elsewhere =
            λ low q l x. sym
            (stand low q (let l' : low < suc d = l in omega arith)
            ∙ ap (λ a. cond a (table_in d b.value low q) (table_in (suc d) u low q))
            (eq-other (index_at (suc d) q) i x));
        child_shape = h.child d (subst (λ n. IsShaped n t) (sym o) shape);
        child_tight = h.child_tight d (subst (λ n. IsTight n t) (sym o) tight);
        map =
            λ q x. sym
            (map q
            ∙ ap (λ a. cond a (entry_at d b.value q) (entry_at (suc d) u q))
            (eq-made (index_at (suc d) q) i x));
        uses = λ f. rw z (let y = rw o at (h.uses d f) in omega (arith, y));
        tables = let y = rw o at (h.tables d) in omega (arith, y, z);
        stock = rw z refl;
        ready = λ c _ _. ready_child d i t b fs c e here;
      }

  -- a new table in the place of a word
  ready_word : (d i w : ℕ) (t child : Table A) (x : Entry) (after : List ℕ) (c : Change)
      → slot_at t i ≡ Word w
      → x ≡ entry_of_word (desc_of (level_at (suc d)) w)
      → ((low q : ℕ) → low < suc d → index_at (suc d) q ≡ i → table_in (suc d) t low q ≡ None)
      → IsFilled d x child
      → fits_word (suc d) x ≡ true
      → IsChange (suc d) c
      → IsOpening (suc d) (slot_at t i) c
      → IsReady (suc d) d i t child (frame_of child ∷ after) after c
  ready_word d i w t child x after c e k none filled fits h opening =
      let z = fresh_word w (slot_at t i) e in
      let split : stays_one_word (suc d) x c ≡ false = rw k (opening.split w e) in
      let need =
      slot_word (suc d) w (slot_at t i) c e ∙ ap (λ y. block_need (suc d) y c) (sym k)
      ∙ block_split (suc d) x c (omega arith) split in
      let o : suc d - 1 ≡ d = omega arith in
      let need' = rw o at need in
      let rank =
      λ (low q : ℕ). slot_rank_word (suc d) w (slot_at t i) c low q e
      ∙ ap (λ y. block_rank (suc d) y c low q) (sym k) ∙ block_rank_split d x c low q split in
      let gone = λ (f : ℕ). gone_word (suc d) w f (slot_at t i) c e in
      let none_gone = λ (f : ℕ). parts_gone d f x child filled.parts c in
      let n : suc d ≡ d + 1 = omega arith in
      record {
        need = omega (arith, z, need', parts_need d x child filled.parts c);
        here =
            λ q y. rw (none d q (omega arith) y)
            (ap (λ r. given_rank (frame_of child ∷ after) None r)
            (rank d q ∙ ap (λ a. cond a (Some 0) (later 1 (parts_rank d x c d q))) (eq-made d d refl)));
        below = λ low q l y.
            let l' : low < suc d = omega arith in
            let ne : low ≢ d = omega arith in
            rw (none low q l' y, filled.standing low q l)
            (ap (λ r. given_rank after None r) (parts_ranked d x child filled.parts c low q)
            ∙ given_later (frame_of child ∷ after) 1 None (parts_rank d x c low q)
            ∙ sym
            (ap (λ r. given_rank (frame_of child ∷ after) None r)
            (rank low q ∙ ap (λ a. cond a (Some 0) (later 1 (parts_rank d x c low q))) (eq-other low d ne))));
        stays = λ f y. omega (arith, gone f, none_gone f);
        goes =
            λ f y. absurd
            (split_not (suc d) (entry_at d child) c x h fits
            (λ q. filled.map q ∙ ap (λ m. advance x (q % block_pages m)) (sym n)) split y);
      }

  pub opened_word : (d i w : ℕ) (t u child : Table A) (x : Entry) (before after : List ℕ)
      → slot_at t i ≡ Word w
      → x ≡ entry_of_word (desc_of (level_at (suc d)) w)
      → IsSeen i t (slot_at t i)
      → IsWritten i 0 t u
      → slots_of u ≡ set (slots_of t) i (Word 0)
      → frame_of u ≡ frame_of t
      → IsShaped (suc d) t
      → IsTight (suc d) t
      → before ≡ frame_of child ∷ after
      → IsFilled d x child
      → fits_word (suc d) x ≡ true
      → IsOpened (suc d) d i t u child before after
  opened_word d i w t u child x before after e k seen h slots frame shape tight stock filled fits =
      let z = fresh_word w (slot_at t i) e in
      let n : suc d ≡ d + 1 = omega arith in
      let none : (low q : ℕ) → low < suc d → index_at (suc d) q ≡ i → table_in (suc d) t low q ≡ None =
      λ low q l y. seen.no_table w (suc d) low q e y l in
      record {
        frame = frame;
        slots = slots;
        shape = h.shape (suc d) shape (zero_said (suc d));
        tight = h.tight (suc d) tight;
        map_elsewhere =
            λ q y. h.map (suc d) q
            ∙ ap (λ a. cond a (word_entry (suc d) q 0) (entry_at (suc d) t q)) (eq-other (index_at (suc d) q) i y);
        tables_elsewhere = λ low q l y. h.standing (suc d) low q;
        child_shape = filled.shape;
        child_tight = filled.tight;
        map =
            λ q y. filled.map q ∙ ap (λ m. advance x (q % block_pages m)) (sym n)
            ∙ ap (λ a. advance a (q % block_pages (suc d))) k ∙ sym (seen.word w (suc d) q e y);
        uses = λ f. rw (z, stock) (let a = filled.uses f in let b = h.uses (suc d) f in omega (arith, a, b));
        tables = omega (arith, filled.tables, h.tables (suc d), z);
        stock = rw (z, stock) refl;
        ready = λ c p q. rw stock (ready_word d i w t child x after c e k none filled fits p q);
      }
