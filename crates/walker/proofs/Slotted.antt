-- A slot whose child was changed, and put back: the child, or the word that says what it says.
use Rattle.std.proofs.Common.{◌≡◌, ℕ, suc, ◌+◌, ◌-◌, ◌*◌, ◌%◌, ◌^◌, ◌<◌, sym, ap, subst, arith, ◌∙◌, cond, true, inl, inr, Some, List, drop, take, length}
use Rattle.std.proofs.Math.Nat.{mod-eq_of_lt}
use Rattle.std.proofs.lemmas.List.{drop-drop}
use Rattle.descriptor.specs.Word.{desc_of}
use Rattle.page_state.specs.declared.entry.Entry.{Entry}
use Rattle.page_state.specs.Blocks.{fits_word}
use Rattle.page_state.specs.Entries.{advance, entry_of_word}
use Rattle.page_state.specs.Counts.{is_one, frame_count}
use Rattle.page_state.proofs.Counts.{count_split, count_next}
use Rattle.page_state.proofs.Entries.{advance-more}
use Rattle.page_state.proofs.Sizes.{size_some}
use Rattle.page_state.proofs.Cases.{by_eq}
use Rattle.page_state.proofs.Common.{not-holds, eq-made}
use Rattle.table_tree.specs.declared.table.Table.{Table}
use Rattle.table_tree.specs.declared.table.Slot.TheVariants.{Word}
use Rattle.table_tree.specs.Meaning.{level_at, index_at, slot_at, frame_of, word_entry, entry_at}
use Rattle.table_tree.specs.Shape.{HoldsWord, IsShaped}
use Rattle.table_tree.specs.Slots.{fresh}
use Rattle.table_tree.specs.Tables.{tables_in, uses_in, table_in}
use Rattle.table_tree.specs.Tight.{IsOneWord, IsOneWordAt, IsTight}
use Rattle.table_tree.proofs.OneWord.{entry_word, entry_in_block, said_words, word_covers}
use Rattle.table_tree.proofs.Digits.{digits, index_small}
use Rattle.table_tree.proofs.PathNumbers.{index_same}
use Rattle.table_tree.proofs.Slots.{shaped_wide}
use Rattle.table_tree.proofs.Standing.{table_top}
use Rattle.table_tree.proofs.Sums.{words_tables, words_uses}
use Rattle.walk_plan.specs.declared.change.Change.{Change}
use Rattle.walk_plan.specs.Changes.{changed_entry}
use Rattle.walk_plan.specs.inner.Needs.{slot_need, table_need}
use Rattle.walk_plan.specs.inner.Ranks.{is_folded, given_rank, slot_rank, slot_gone, table_gone}
use Rattle.walker.specs.inner.Walks.{IsTableChanged}
use Rattle.walker.specs.inner.Steps.{IsOpened, IsReady, IsFoldedIn, IsPutIn, IsPutBack}
use Rattle.walker.proofs.Folded.{folded_fits, folded_each, folded_by}
use Rattle.walker.proofs.Maps.{changed_at}
use Rattle.walker.proofs.Writes.{put_here, put_other, put_stand, written_other}

module _ {A : Type 0} where
  module _ (d i : ℕ) (t u b b' : Table A) (c : Change) (fs gs hs : List ℕ) (o : IsOpened (d + 1) d i t u b fs gs)
      (r : IsReady (d + 1) d i t b fs gs c) (g : IsTableChanged d b b' c gs hs) where
    -- what is done to the pages of the slot
    grown_map : (q : ℕ) → index_at (d + 1) q ≡ i → entry_at d b' q ≡ changed_entry (d + 1) (entry_at (d + 1) t) c q
    grown_map q x = g.map q ∙ changed_at (d + 1) (entry_at d b) (entry_at (d + 1) t) c q (o.map q x)

    pub all_spare : hs ≡ drop (slot_need (d + 1) (slot_at t i) c) fs
    all_spare =
        g.spare ∙ ap (λ l. drop (table_need d b c) l) o.stock ∙ drop-drop (table_need d b c) (fresh (slot_at t i)) fs
        ∙ ap (λ n. drop n fs) r.need

    all_taken : (f : ℕ)
        → frame_count f (take (slot_need (d + 1) (slot_at t i) c) fs)
        ≡ frame_count f (take (fresh (slot_at t i)) fs) + frame_count f (take (table_need d b c) gs)
    all_taken f =
        ap (λ n. frame_count f (take n fs)) (sym r.need) ∙ count_split f (fresh (slot_at t i)) (table_need d b c) fs
        ∙ ap (λ l. frame_count f (take (fresh (slot_at t i)) fs) + frame_count f (take (table_need d b c) l))
        (sym o.stock)

    -- a child that a word says
    module _ (v : Table A) (before after : List ℕ) (k : IsFoldedIn d i u v b' before after) where
      abbrev entry : Entry
      entry = entry_of_word (desc_of (level_at (d + 1)) k.word)

      words : (j : ℕ) → j < 512 → HoldsWord (slot_at b' j)
      words j p = let x = k.says.parts j p in (x.0, x.1)

      fold_entry : (q : ℕ) → entry_at d b' q ≡ advance entry (q % 2 ^ (9 * (d + 1)))
      fold_entry q =
          let j = index_at d q in
          let x = k.says.parts j (index_small d q) in
          entry_word d b' q x.0 x.1 ∙ ap (λ e. advance e (q % 2 ^ (9 * d))) x.2
          ∙ advance-more entry (j * 2 ^ (9 * d)) (q % 2 ^ (9 * d)) ∙ ap (λ n. advance entry n) (sym (digits d q))

      fold_here : (q : ℕ) → index_at (d + 1) q ≡ i → entry_at (d + 1) v q ≡ advance entry (q % 2 ^ (9 * (d + 1)))
      fold_here q x =
          k.written.map (d + 1) q
          ∙ ap (λ z. cond z (word_entry (d + 1) q k.word) (entry_at (d + 1) u q)) (eq-made (index_at (d + 1) q) i x)

      fold_map : (q : ℕ)
          → index_at (d + 1) q ≡ i
          → entry_at (d + 1) v q ≡ changed_entry (d + 1) (entry_at (d + 1) t) c q
      fold_map q x = fold_here q x ∙ sym (fold_entry q) ∙ grown_map q x

      covered : (low q : ℕ) → low < d + 1 → index_at (d + 1) q ≡ i → IsOneWordAt (low + 1) (entry_at (d + 1) v) q
      covered low q l x =
          let e : d - low + (low + 1) ≡ d + 1 = omega arith in
          let here : slot_at v (index_at (d + 1) q) ≡ Word k.word = ap (λ j. slot_at v j) x ∙ k.here in
          let covers = word_covers (d - low) (low + 1) v k.word q in
          (rw e at covers) k.says.fits here (λ p h. index_same (d + 1) low p q l h)

      fold_gone : (f : ℕ) → slot_gone (d + 1) (slot_at t i) c f ≡ table_gone d b c f + is_one (frame_of b) f
      fold_gone f =
          r.goes f
          (folded_by (d + 1) (entry_at d b) c entry k.says.fits
          (λ q l. sym (g.map q) ∙ fold_entry q ∙ ap (λ n. advance entry n) (mod-eq_of_lt l)))

      fold_uses : (f : ℕ)
          → uses_in (d + 1) v f + slot_gone (d + 1) (slot_at t i) c f
          ≡ uses_in (d + 1) t f + frame_count f (take (slot_need (d + 1) (slot_at t i) c) fs)
      fold_uses f = let e = ap (λ n. is_one n f) g.frame in
          omega (
            arith,
            fold_gone f,
            o.uses f,
            g.uses f,
            all_taken f,
            words_uses d b' f (shaped_wide d b' g.shape) words,
            k.written.uses (d + 1) f,
            e,
          )

      fold_freed : (f : ℕ) (start : List ℕ)
          → frame_count f before ≡ table_gone d b c f + frame_count f start
          → frame_count f after ≡ slot_gone (d + 1) (slot_at t i) c f + frame_count f start
      fold_freed f start h = let e = ap (λ n. is_one n f) g.frame in
          let m = ap (λ l. frame_count f l) k.freed ∙ count_next f (frame_of b') before in
          omega (arith, fold_gone f, h, e, m)

      fold_tables : (start : ℕ)
          → tables_in d b' + length before ≡ tables_in d b + table_need d b c + start
          → tables_in (d + 1) v + length after ≡ tables_in (d + 1) t + slot_need (d + 1) (slot_at t i) c + start
      fold_tables start h = let n = ap (λ l. length l) k.freed in
          omega (
            arith,
            h,
            n,
            o.tables,
            r.need,
            words_tables d b' (shaped_wide d b' g.shape) words,
            k.written.tables (d + 1),
          )

    -- a child that was put back
    module _ (v : Table A) (before after : List ℕ) (k : IsPutIn d i u v b' before after) where
      said_all : is_folded (d + 1) (entry_at d b) c ≡ true → IsOneWord d b'
      said_all z =
          let x = changed_entry (d + 1) (entry_at d b) c 0 in
          let n : d + 1 ≡ suc d = omega arith in
          said_words d b' x g.shape g.tight
          (subst (λ k. fits_word k x ≡ true) n (folded_fits (d + 1) (entry_at d b) c z))
          (λ q. entry_in_block d b' q g.shape ∙ g.map (q % 2 ^ (9 * (d + 1)))
          ∙ folded_each (d + 1) (entry_at d b) c z (q % 2 ^ (9 * (d + 1)))
          (let s = size_some (d + 1) in omega (arith, s)))

      back_gone : (f : ℕ) → slot_gone (d + 1) (slot_at t i) c f ≡ table_gone d b c f
      back_gone f = r.stays f (not-holds (is_folded (d + 1) (entry_at d b) c) (λ z. k.none (said_all z)))

      back_map : (q : ℕ)
          → index_at (d + 1) q ≡ i
          → entry_at (d + 1) v q ≡ changed_entry (d + 1) (entry_at (d + 1) t) c q
      back_map q x = put_here d i u v b' k.attached q x ∙ grown_map q x

      back_kept : (low q : ℕ)
          → low < d + 1
          → index_at (d + 1) q ≡ i
          → (IsOneWordAt (low + 1) (entry_at (d + 1) v) q → ⊥)
          → table_in (d + 1) v low q
          ≡ given_rank fs (table_in (d + 1) t low q) (slot_rank (d + 1) (slot_at t i) c low q)
      back_kept low q h x n =
          let a = k.attached in
          let stand : table_in (d + 1) v low q ≡ table_in d b' low q =
          a.standing d low q (omega arith)
          ∙ ap (λ z. cond z (table_in d b' low q) (table_in (d + 1) u low q))
          (eq-made (index_at (d + 1) q) i x) in
          by_eq low d
          (λ z. stand ∙ table_top d low b' q z ∙ ap Some g.frame ∙ sym (r.here q x)
          ∙ ap (λ l. given_rank fs (table_in (d + 1) t l q) (slot_rank (d + 1) (slot_at t i) c l q)) (sym z))
          (λ z. let l : low < d = omega arith in
          stand
          ∙ g.kept low q l
          (λ w. n
          (record {
            entry = w.entry;
            fits = w.fits;
            along = λ p e. put_here d i u v b' a p (index_same (d + 1) low p q h e ∙ x)
                ∙ w.along p e;
          }))
          ∙ r.below low q l x)

      back_uses : (f : ℕ)
          → uses_in (d + 1) v f + slot_gone (d + 1) (slot_at t i) c f
          ≡ uses_in (d + 1) t f + frame_count f (take (slot_need (d + 1) (slot_at t i) c) fs)
      back_uses f = omega (arith, back_gone f, o.uses f, g.uses f, all_taken f, k.attached.uses d f)

      back_freed : (f : ℕ) (start : List ℕ)
          → frame_count f before ≡ table_gone d b c f + frame_count f start
          → frame_count f after ≡ slot_gone (d + 1) (slot_at t i) c f + frame_count f start
      back_freed f start h = let m = ap (λ l. frame_count f l) k.freed in omega (arith, back_gone f, h, m)

      back_tables : (start : ℕ)
          → tables_in d b' + length before ≡ tables_in d b + table_need d b c + start
          → tables_in (d + 1) v + length after ≡ tables_in (d + 1) t + slot_need (d + 1) (slot_at t i) c + start
      back_tables start h = let n = ap (λ l. length l) k.freed in
          omega (arith, h, n, o.tables, r.need, k.attached.tables d)

    -- either way
    module _ (v : Table A) (before after : List ℕ) (k : IsPutBack d i u v b' before after) where
      pub slot_shape : IsShaped (d + 1) v
      slot_shape =
          elim k [ inl y ↦ y.written.shape (d + 1) o.shape y.says.said | inr y ↦ y.attached.shape d o.shape g.shape ]

      pub slot_tight : IsTight (d + 1) v
      slot_tight =
          elim k [ inl y ↦ y.written.tight (d + 1) o.tight | inr y ↦ y.attached.tight d o.tight y.none g.tight ]

      pub slot_map : (q : ℕ)
          → index_at (d + 1) q ≡ i
          → entry_at (d + 1) v q ≡ changed_entry (d + 1) (entry_at (d + 1) t) c q
      slot_map q x = elim k [ inl y ↦ fold_map v before after y q x | inr y ↦ back_map v before after y q x ]

      pub slot_other : (q : ℕ) → (index_at (d + 1) q ≡ i → ⊥) → entry_at (d + 1) v q ≡ entry_at (d + 1) t q
      slot_other q x =
          elim k
          [ inl y ↦ written_other (d + 1) i y.word u v y.written q x | inr y ↦ put_other d i u v b' y.attached q x ]
          ∙ o.map_elsewhere q x

      pub slot_stand : (low q : ℕ)
          → low < d + 1
          → (index_at (d + 1) q ≡ i → ⊥)
          → table_in (d + 1) v low q ≡ table_in (d + 1) t low q
      slot_stand low q l x =
          elim k [ inl y ↦ y.written.standing (d + 1) low q | inr y ↦ put_stand d i u v b' y.attached low q l x ]
          ∙ o.tables_elsewhere low q l x

      pub slot_kept : (low q : ℕ)
          → low < d + 1
          → index_at (d + 1) q ≡ i
          → (IsOneWordAt (low + 1) (entry_at (d + 1) v) q → ⊥)
          → table_in (d + 1) v low q
          ≡ given_rank fs (table_in (d + 1) t low q) (slot_rank (d + 1) (slot_at t i) c low q)
      slot_kept low q l x n =
          elim k [
            | inl y ↦ absurd (n (covered v before after y low q l x))
            | inr y ↦ back_kept v before after y low q l x n
          ]

      pub slot_uses : (f : ℕ)
          → uses_in (d + 1) v f + slot_gone (d + 1) (slot_at t i) c f
          ≡ uses_in (d + 1) t f + frame_count f (take (slot_need (d + 1) (slot_at t i) c) fs)
      slot_uses f = elim k [ inl y ↦ fold_uses v before after y f | inr y ↦ back_uses v before after y f ]

      pub slot_freed : (f : ℕ) (start : List ℕ)
          → frame_count f before ≡ table_gone d b c f + frame_count f start
          → frame_count f after ≡ slot_gone (d + 1) (slot_at t i) c f + frame_count f start
      slot_freed f start h =
          elim k [ inl y ↦ fold_freed v before after y f start h | inr y ↦ back_freed v before after y f start h ]

      pub slot_tables : (start : ℕ)
          → tables_in d b' + length before ≡ tables_in d b + table_need d b c + start
          → tables_in (d + 1) v + length after ≡ tables_in (d + 1) t + slot_need (d + 1) (slot_at t i) c + start
      slot_tables start h =
          elim k [ inl y ↦ fold_tables v before after y start h | inr y ↦ back_tables v before after y start h ]
