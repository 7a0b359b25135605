use Rattle.std.proofs.Common.{◌≡◌, ℕ, ◌+◌, ◌-◌, ◌<◌, ◌≤◌, length, refl, sym, ap, arith, ◌∙◌, cond, ◌==◌, Some, add-one}
use Rattle.std.proofs.Math.ListN.{set}
use Rattle.std.specs.declared.boxed.Box.{Box}
use Rattle.page_state.proofs.Cases.{by_eq}
use Rattle.page_state.proofs.Common.{eq-made, eq-other}
use Rattle.table_tree.specs.declared.table.Table.{Table}
use Rattle.table_tree.specs.declared.table.Slot.{Slot}
use Rattle.table_tree.specs.declared.table.Slot.TheVariants.{Word, Child}
use Rattle.table_tree.specs.Meaning.{index_at, slot_at, slots_of, frame_of, entry_at}
use Rattle.table_tree.specs.Shape.{IsWide, HoldsWord}
use Rattle.table_tree.specs.Tables.{table_in}
use Rattle.table_tree.specs.Slots.{slot_entry, slot_table}
use Rattle.table_tree.specs.Changes.{IsWritten, IsAttached, IsSeen}
use Rattle.table_tree.proofs.Slots.{get_any, set_back, set_here, set_others, set_wide, shaped_set, shaped_slot, slot_word_made, slot_child_made, slot_child_is, slot_word_is}
use Rattle.table_tree.proofs.Steps.{entry_step, word_gives, child_gives}
use Rattle.table_tree.proofs.Tight.{tight_word, tight_attach, tight_child}
use Rattle.table_tree.proofs.Sums.{tables_word, tables_child, uses_word, uses_child, tables_set, uses_set}
use Rattle.table_tree.proofs.Standing.{table_top, table_below, stand_word, stand_child}

module _ {A : Type 0} where
  -- a page in the slot that changed, and in another
  changed_entry : (d i q : ℕ) (t u : Table A) (s : Slot A)
      → IsWide t
      → i < 512
      → slots_of u ≡ set (slots_of t) i s
      → entry_at d u q ≡ cond (index_at d q == i) (slot_entry d s q) (entry_at d t q)
  changed_entry d i q t u s wide p e =
      by_eq (index_at d q) i
      (λ z. entry_step d u q ∙ ap (λ r. slot_entry d r q) (set_here t u i (index_at d q) s e p wide z)
      ∙ sym (ap (λ b. cond b (slot_entry d s q) (entry_at d t q)) (eq-made (index_at d q) i z)))
      (λ z. entry_step d u q ∙ ap (λ r. slot_entry d r q) (set_others t u i (index_at d q) s e z)
      ∙ sym (entry_step d t q)
      ∙ sym (ap (λ b. cond b (slot_entry d s q) (entry_at d t q)) (eq-other (index_at d q) i z)))

  changed_table : (d i low q : ℕ) (t u : Table A) (s : Slot A)
      → IsWide t
      → i < 512
      → slots_of u ≡ set (slots_of t) i s
      → (low ≡ d → ⊥)
      → table_in d u low q ≡ cond (index_at d q == i) (slot_table d s low q) (table_in d t low q)
  changed_table d i low q t u s wide p e ne =
      by_eq (index_at d q) i
      (λ z. table_below d low u q ne ∙ ap (λ r. slot_table d r low q) (set_here t u i (index_at d q) s e p wide z)
      ∙ sym (ap (λ b. cond b (slot_table d s low q) (table_in d t low q)) (eq-made (index_at d q) i z)))
      (λ z. table_below d low u q ne ∙ ap (λ r. slot_table d r low q) (set_others t u i (index_at d q) s e z)
      ∙ sym (table_below d low t q ne)
      ∙ sym (ap (λ b. cond b (slot_table d s low q) (table_in d t low q)) (eq-other (index_at d q) i z)))

  same_table : (d i low q w v : ℕ) (t u : Table A)
      → IsWide t
      → i < 512
      → slots_of u ≡ set (slots_of t) i (Word v)
      → slot_at t i ≡ Word w
      → frame_of u ≡ frame_of t
      → table_in d u low q ≡ table_in d t low q
  same_table d i low q w v t u wide p e h f =
      by_eq low d
      (λ z. table_top d low u q z ∙ ap Some f ∙ sym (table_top d low t q z))
      (λ ne. by_eq (index_at d q) i
      (λ z. table_below d low u q ne
      ∙ stand_word d v low q (slot_at u (index_at d q)) (set_here t u i (index_at d q) (Word v) e p wide z)
      ∙ sym (stand_word d w low q (slot_at t (index_at d q)) (ap (λ j. slot_at t j) z ∙ h))
      ∙ sym (table_below d low t q ne))
      (λ z. table_below d low u q ne ∙ ap (λ r. slot_table d r low q) (set_others t u i (index_at d q) (Word v) e z)
      ∙ sym (table_below d low t q ne)))

  pub written : (i word : ℕ) (t u : Table A)
      → i < 512
      → IsWide t
      → HoldsWord (slot_at t i)
      → slots_of u ≡ set (slots_of t) i (Word word)
      → frame_of u ≡ frame_of t
      → IsWritten i word t u
  written i word t u p wide h e f = record {
    map =
        λ d q. changed_entry d i q t u (Word word) wide p e
        ∙ ap (λ x. cond (index_at d q == i) x (entry_at d t q)) (word_gives d q word (Word word) refl);
    tables =
        λ d. omega (
          arith,
          tables_set d i t u (Word word) wide p e,
          tables_word d h.0 (slot_at t i) h.1,
          tables_word {A = A} d word (Word word) refl,
        );
    uses =
        λ d g. omega (
          arith,
          uses_set d i g t u (Word word) f wide p e,
          uses_word d h.0 g (slot_at t i) h.1,
          uses_word {A = A} d word g (Word word) refl,
        );
    standing = λ d low q. same_table d i low q h.0 word t u wide p e h.1 f;
    shape = λ d x y. shaped_set d t u i (Word word) x p e (slot_word_made d word (Word word) refl y);
    tight = λ d x. tight_word d t u i word x wide p e;
  }

  pub attached : (i : ℕ) (t u : Table A) (b : Box (Table A) A)
      → i < 512
      → IsWide t
      → HoldsWord (slot_at t i)
      → slots_of u ≡ set (slots_of t) i (Child b)
      → frame_of u ≡ frame_of t
      → IsAttached i t u b.value
  attached i t u b p wide h e f = record {
    map =
        λ d q. changed_entry (d + 1) i q t u (Child b) wide p e
        ∙ ap (λ x. cond (index_at (d + 1) q == i) x (entry_at (d + 1) t q))
        (child_gives (d + 1) d q b (Child b) (omega arith) refl);
    tables =
        λ d. omega (
          arith,
          tables_set (d + 1) i t u (Child b) wide p e,
          tables_word (d + 1) h.0 (slot_at t i) h.1,
          tables_child (d + 1) d b (Child b) (omega arith) refl,
        );
    uses =
        λ d g. omega (
          arith,
          uses_set (d + 1) i g t u (Child b) f wide p e,
          uses_word (d + 1) h.0 g (slot_at t i) h.1,
          uses_child (d + 1) d g b (Child b) (omega arith) refl,
        );
    standing =
        λ d low q l. changed_table (d + 1) i low q t u (Child b) wide p e (λ z. let l' : low ≤ d = l in omega arith)
        ∙ ap (λ x. cond (index_at (d + 1) q == i) x (table_in (d + 1) t low q))
        (stand_child (d + 1) d low q b (Child b) (omega arith) refl);
    shape =
        λ d x y. shaped_set (d + 1) t u i (Child b) x p e (slot_child_made (d + 1) d b (Child b) (omega arith) refl y);
    child = λ d x. let k : d + 1 - 1 ≡ d = omega arith in
        let y =
        slot_child_is (d + 1) b (slot_at u i) (shaped_slot (d + 1) u i x p)
        (set_here t u i i (Child b) e p wide refl) in
        rw k at y.1;
    tight = λ d x y z. rw add-one (tight_attach d t u i b (rw add-one at x) wide p e y z);
    child_tight = λ d x. (tight_child d u i b (rw add-one at x) p (set_here t u i i (Child b) e p wide refl)).1;
  }

  -- a child taken out, and the word 0 in its place
  pub detached : (i : ℕ) (t u : Table A) (b : Box (Table A) A)
      → i < 512
      → IsWide t
      → slot_at t i ≡ Child b
      → slots_of u ≡ set (slots_of t) i (Word 0)
      → frame_of u ≡ frame_of t
      → IsAttached i u t b.value
  detached i t u b p wide h e f =
      let q : i < length (slots_of t) = omega (arith, wide) in
      let back : slots_of t ≡ set (slots_of u) i (Child b) =
      sym
      (ap (λ l. set l i (Child b)) e
      ∙ set_back (slots_of t) i (Word 0) (Child b) q
      (sym h ∙ get_any (slots_of t) i (Word 0) (Child b) q)) in
      attached i u t b p (set_wide t u i (Word 0) e wide) (0, set_here t u i i (Word 0) e p wide refl) back (sym f)

  -- a slot that was looked at
  pub seen : (i : ℕ) (t : Table A) (s : Slot A) → i < 512 → s ≡ slot_at t i → IsSeen i t s
  seen i t s p h = record {
    word =
        λ w d q e x. entry_step d t q
        ∙ word_gives d q w (slot_at t (index_at d q)) (ap (λ j. slot_at t j) x ∙ sym h ∙ e);
    word_shape = λ w d e x. slot_word_is d w (slot_at t i) (shaped_slot d t i x p) (sym h ∙ e);
    no_table =
        λ w d low q e x l. table_below d low t q (λ z. let l' : low < d = l in omega arith)
        ∙ stand_word d w low q (slot_at t (index_at d q)) (ap (λ j. slot_at t j) x ∙ sym h ∙ e);
    child =
        λ b d q e x. entry_step (d + 1) t q
        ∙ child_gives (d + 1) d q b (slot_at t (index_at (d + 1) q)) (omega arith)
        (ap (λ j. slot_at t j) x ∙ sym h ∙ e);
    child_shape = λ b d e x. let k : d + 1 - 1 ≡ d = omega arith in
        let y = slot_child_is (d + 1) b (slot_at t i) (shaped_slot (d + 1) t i x p) (sym h ∙ e) in
        rw k at y.1;
    table =
        λ b d low q e x l. table_below (d + 1) low t q (λ z. let l' : low ≤ d = l in omega arith)
        ∙ stand_child (d + 1) d low q b (slot_at t (index_at (d + 1) q)) (omega arith)
        (ap (λ j. slot_at t j) x ∙ sym h ∙ e);
    last = λ b e x. let y : 1 ≤ 0 = (slot_child_is 0 b (slot_at t i) (shaped_slot 0 t i x p) (sym h ∙ e)).0 in
        absurd (omega arith);
  }
