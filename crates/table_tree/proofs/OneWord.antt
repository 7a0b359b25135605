-- Tables that a word can say, and blocks that a word can say.
use Rattle.std.proofs.Common.{◌≡◌, ℕ, zero, suc, true, ◌+◌, ◌-◌, ◌*◌, ◌/◌, ◌%◌, ◌^◌, ◌<◌, ◌≤◌, refl, sym, ap, arith, ◌∙◌, Some, None}
use Rattle.std.proofs.lemmas.Nat.{div-mul-add, mod-mul-add, mod-pow-add, field_of}
use Rattle.std.proofs.Math.Nat.{mod-eq_of_lt}
use Rattle.std.specs.declared.boxed.Box.{Box}
use Rattle.descriptor.specs.Word.{desc_of}
use Rattle.page_state.specs.declared.entry.Entry.{Entry}
use Rattle.page_state.specs.declared.entry.Entry.TheVariants.{Malformed, Unmapped, Annotated, Leaf}
use Rattle.page_state.specs.Entries.{advance, entry_of_word}
use Rattle.page_state.specs.Blocks.{fits_word}
use Rattle.page_state.proofs.Entries.{advance-none, advance-more}
use Rattle.page_state.proofs.Fits.{fits_part, fits_below}
use Rattle.page_state.proofs.Sizes.{size_some}
use Rattle.page_state.proofs.Cases.{by_eq}
use Rattle.table_tree.specs.declared.table.Table.{Table}
use Rattle.table_tree.specs.declared.table.Slot.TheVariants.{Word, Child}
use Rattle.table_tree.specs.Meaning.{level_at, index_at, slot_at, frame_of, word_entry, entry_at}
use Rattle.table_tree.specs.Shape.{IsEntryWord, IsShaped}
use Rattle.table_tree.specs.Tables.{table_in}
use Rattle.table_tree.specs.Tight.{HasEntry, IsOneWord, IsOneWordAt, IsTight}
use Rattle.table_tree.proofs.Digits.{digits}
use Rattle.table_tree.proofs.PathNumbers.{index_same}
use Rattle.table_tree.proofs.Slots.{by_slot, shaped_slot, slot_child_is, slot_word_is}
use Rattle.table_tree.proofs.Steps.{entry_step, word_gives, child_gives}
use Rattle.table_tree.proofs.Standing.{table_below, table_top, stand_word, stand_child}
use Rattle.table_tree.specs.Slots.{slot_table}
use Rattle.table_tree.proofs.Tight.{tight_child}

pub advance_none : (e : Entry) (n : ℕ) → advance e n ≡ Unmapped → e ≡ Unmapped
advance_none Malformed n h = absurd (cc)
advance_none Unmapped n h = refl
advance_none (Annotated o) n h = absurd (cc)
advance_none (Leaf f p k s) n h = absurd (cc)

-- the page of part `i` that lies as `q` does in its own part
part_page : (d i q : ℕ)
    → i < 512
    → (index_at d (i * 2 ^ (9 * d) + q % 2 ^ (9 * d)) ≡ i)
    × ((i * 2 ^ (9 * d) + q % 2 ^ (9 * d)) % 2 ^ (9 * d) ≡ q % 2 ^ (9 * d))
part_page d i q p =
    let s = 2 ^ (9 * d) in
    let z = size_some d in
    let l : q % s < s = omega (arith, z) in
    let y = div-mul-add i s (q % s) l in
    (rw y (mod-eq_of_lt p), mod-mul-add i s (q % s) l)

index_mod : (d p q : ℕ)
    → p % 2 ^ (9 * (d + 1)) ≡ q % 2 ^ (9 * (d + 1))
    → (index_at d p ≡ index_at d q) × (p % 2 ^ (9 * d) ≡ q % 2 ^ (9 * d))
index_mod d p q h =
    let e : 9 * (d + 1) ≡ 9 + 9 * d = omega arith in
    let h' = rw e at h in
    let i : index_at d p ≡ index_at d q =
    sym (field_of p 9 (9 * d)) ∙ ap (λ x. x / 2 ^ (9 * d)) h' ∙ field_of q 9 (9 * d) in
    let y = digits d p in
    let z = digits d q in
    (i, omega (arith, y, z, h, ap (λ x. x * 2 ^ (9 * d)) i))

module _ {A : Type 0} where
  pub entry_word : (d : ℕ) (t : Table A) (q w : ℕ)
      → slot_at t (index_at d q) ≡ Word w
      → entry_at d t q ≡ word_entry d q w
  entry_word d t q w e = entry_step d t q ∙ word_gives d q w (slot_at t (index_at d q)) e

  entry_child : (d : ℕ) (t : Table A) (q : ℕ) (b : Box (Table A) A)
      → slot_at t (index_at (suc d) q) ≡ Child b
      → entry_at (suc d) t q ≡ entry_at d b.value q
  entry_child d t q b e = entry_step (suc d) t q ∙ child_gives (suc d) d q b (slot_at t (index_at (suc d) q)) refl e

  -- no child at the last level
  no_child : (t : Table A) (i : ℕ) (b : Box (Table A) A) → IsShaped 0 t → i < 512 → slot_at t i ≡ Child b → ⊥
  no_child t i b h p e = let y : 1 ≤ 0 = (slot_child_is 0 b (slot_at t i) (shaped_slot 0 t i h p) e).0 in
      absurd (omega arith)

  child_shape : (d : ℕ) (t : Table A) (i : ℕ) (b : Box (Table A) A)
      → IsShaped (suc d) t
      → i < 512
      → slot_at t i ≡ Child b
      → IsShaped d b.value
  child_shape d t i b h p e = let x = slot_child_is (suc d) b (slot_at t i) (shaped_slot (suc d) t i h p) e in
      let k : suc d - 1 ≡ d = omega arith in
      rw k at x.1

  -- the entry of a page hangs on what is left of it in its block
  same_word : (d : ℕ) (t : Table A) (p q w : ℕ)
      → index_at d p ≡ index_at d q
      → p % 2 ^ (9 * d) ≡ q % 2 ^ (9 * d)
      → slot_at t (index_at d p) ≡ Word w
      → entry_at d t p ≡ entry_at d t q
  same_word d t p q w x y e =
      let e' : slot_at t (index_at d q) ≡ Word w = rw x at e in
      entry_word d t p w e ∙ ap (λ r. advance (entry_of_word (desc_of (level_at d) w)) r) y
      ∙ sym (entry_word d t q w e')

  pub entry_same_page : (d : ℕ) (t : Table A) (p q : ℕ)
      → IsShaped d t
      → p % 2 ^ (9 * (d + 1)) ≡ q % 2 ^ (9 * (d + 1))
      → entry_at d t p ≡ entry_at d t q
  entry_same_page zero t p q h e =
      let x = index_mod 0 p q e in
      by_slot (slot_at t (index_at 0 p)) (λ w y. same_word 0 t p q w x.0 x.1 y)
      (λ b y. absurd (no_child t (index_at 0 p) b h (omega arith) y))
  entry_same_page (suc d) t p q h e =
      let x = index_mod (suc d) p q e in
      let o : suc d ≡ d + 1 = omega arith in
      by_slot (slot_at t (index_at (suc d) p))
      (λ w y. same_word (suc d) t p q w x.0 x.1 y)
      (λ b y.
      let y' : slot_at t (index_at (suc d) q) ≡ Child b = rw x.0 at y in
      entry_child d t p b y
      ∙ entry_same_page d b.value p q (child_shape d t (index_at (suc d) p) b h (omega arith) y) (rw (sym o) x.1)
      ∙ sym (entry_child d t q b y'))

  pub entry_in_block : (d : ℕ) (t : Table A) (q : ℕ)
      → IsShaped d t
      → entry_at d t q ≡ entry_at d t (q % 2 ^ (9 * (d + 1)))
  entry_in_block d t q h = let s = size_some (d + 1) in
      let l : q % 2 ^ (9 * (d + 1)) < 2 ^ (9 * (d + 1)) = omega (arith, s) in
      entry_same_page d t q (q % 2 ^ (9 * (d + 1))) h (sym (mod-eq_of_lt l))

  -- a word of a table whose pages go on with an entry gives its part of it
  said_slot : (d : ℕ) (t : Table A) (i w : ℕ) (x : Entry)
      → i < 512
      → slot_at t i ≡ Word w
      → ((q : ℕ) → entry_at d t q ≡ advance x (q % 2 ^ (9 * (d + 1))))
      → HasEntry d (advance x (i * 2 ^ (9 * d))) (slot_at t i)
  said_slot d t i w x p y e =
      let s = 2 ^ (9 * d) in
      let z = size_some d in
      let none : 0 % s ≡ 0 = omega (arith, z) in
      let g = i * s + 0 % s in
      let at = part_page d i 0 p in
      let y' : slot_at t (index_at d g) ≡ Word w = rw at.0 y in
      let last : g % s ≡ 0 = at.1 ∙ none in
      let place : g % 2 ^ (9 * (d + 1)) ≡ i * s = digits d g ∙ rw (at.0, last) (omega arith) in
      let x' = entry_of_word (desc_of (level_at d) w) in (
        w,
        y,
        sym (advance-none x') ∙ ap (λ n. advance x' n) (sym last) ∙ sym (entry_word d t g w y') ∙ e g
            ∙ ap (λ n. advance x n) place,
      )

  -- a word can say what a table says whose pages go on with an entry that fits one, where none can say what a table
  -- below it says
  pub said_words : (d : ℕ) (t : Table A) (x : Entry)
      → IsShaped d t
      → IsTight d t
      → fits_word (suc d) x ≡ true
      → ((q : ℕ) → entry_at d t q ≡ advance x (q % 2 ^ (9 * (d + 1))))
      → IsOneWord d t
  said_words zero t x h z f e = record {
    entry = x;
    fits = f;
    parts = λ i p. by_slot (slot_at t i) (λ w y. said_slot 0 t i w x p y e) (λ b y. absurd (no_child t i b h p y));
  }
  said_words (suc d) t x h z f e = record {
    entry = x;
    fits = f;
    parts = λ i p.
        let o : suc d ≡ d + 1 = omega arith in
        let s = 2 ^ (9 * suc d) in
        by_slot (slot_at t i)
        (λ w y. said_slot (suc d) t i w x p y e)
        (λ b y.
        let n = tight_child d t i b z p y in
        let c = child_shape d t i b h p y in
        absurd (n.0 (said_words d b.value (advance x (i * s)) c n.1 (fits_part (suc d) i x p f) (λ q.
        let g = i * s + q % s in
        let at = part_page (suc d) i q p in
        let y' : slot_at t (index_at (suc d) g) ≡ Child b = rw at.0 y in
        let place : g % 2 ^ (9 * (suc d + 1)) ≡ i * s + q % s = digits (suc d) g ∙ rw (at.0, at.1) refl in
        let small : q % s ≡ q % 2 ^ (9 * (d + 1)) = ap (λ n. q % 2 ^ (9 * n)) o in
        sym (entry_same_page d b.value g q c (rw (sym o) at.1)) ∙ sym (entry_child d t g b y') ∙ e g
        ∙ ap (λ n. advance x n) place ∙ sym (advance-more x (i * s) (q % s))
        ∙ ap (λ n. advance (advance x (i * s)) n) small))));
  }

  -- no table stands on a block that a word can say
  pub said_gone : (d : ℕ) (t : Table A) (low q : ℕ) (x : Entry)
      → IsShaped d t
      → IsTight d t
      → low < d
      → fits_word (low + 1) x ≡ true
      → ((p : ℕ)
      → p / 2 ^ (9 * (low + 1)) ≡ q / 2 ^ (9 * (low + 1))
      → entry_at d t p ≡ advance x (p % 2 ^ (9 * (low + 1))))
      → table_in d t low q ≡ None
  said_gone zero t low q x h z u f e = absurd (omega arith)
  said_gone (suc d) t low q x h z u f e =
      let s = 2 ^ (9 * suc d) in
      let v = size_some (suc d) in
      let i = index_at (suc d) q in
      let step = table_below (suc d) low t q (λ x. let l : low < suc d = u in omega arith) in
      by_slot (slot_at t i)
      (λ w y. step ∙ stand_word (suc d) w low q (slot_at t i) y)
      (λ b y.
      let n = tight_child d t i b z (omega arith) y in
      let c = child_shape d t i b h (omega arith) y in
      by_eq low d
      (λ k.
      let o : low + 1 ≡ suc d = omega arith in
      let o' : suc d ≡ d + 1 = omega arith in
      absurd (n.0 (said_words d b.value x c n.1 (rw o at f) (λ r.
      let g = q / s * s + r % s in
      let lt : r % s < s = omega (arith, v) in
      let a : g / s ≡ q / s = div-mul-add (q / s) s (r % s) lt in
      let m : g % s ≡ r % s = mod-mul-add (q / s) s (r % s) lt in
      let y' : slot_at t (index_at (suc d) g) ≡ Child b = rw (ap (λ j. j % 512) a) y in
      let said : entry_at (suc d) t g ≡ advance x (g % 2 ^ (9 * (low + 1))) = e g (rw o a) in
      let place : g % 2 ^ (9 * (low + 1)) ≡ r % 2 ^ (9 * (d + 1)) =
      ap (λ n. g % 2 ^ (9 * n)) o ∙ m ∙ ap (λ n. r % 2 ^ (9 * n)) o' in
      sym (entry_same_page d b.value g r c (rw (sym o') m)) ∙ sym (entry_child d t g b y') ∙ said
      ∙ ap (λ n. advance x n) place))))
      (λ k.
      let u' : low < d = omega arith in
      step ∙ stand_child (suc d) d low q b (slot_at t i) refl y ∙ said_gone d b.value low q x c n.1 u' f (λ p w.
      let y' : slot_at t (index_at (suc d) p) ≡ Child b = rw (index_same (suc d) low p q u w) y in
      sym (entry_child d t p b y') ∙ e p w)))

  pub one_word_gone : (d : ℕ) (t : Table A) (low q : ℕ)
      → IsShaped d t
      → IsTight d t
      → low < d
      → IsOneWordAt (low + 1) (entry_at d t) q
      → table_in d t low q ≡ None
  one_word_gone d t low q h z u a = said_gone d t low q a.entry h z u a.fits a.along

  -- so none stands on a block whose pages are all unmapped
  pub unmapped_gone : (d : ℕ) (t : Table A) (low q : ℕ)
      → IsShaped d t
      → IsTight d t
      → low < d
      → ((p : ℕ) → p / 2 ^ (9 * (low + 1)) ≡ q / 2 ^ (9 * (low + 1)) → entry_at d t p ≡ Unmapped)
      → table_in d t low q ≡ None
  unmapped_gone d t low q h z u e = said_gone d t low q Unmapped h z u refl e

  -- what a word gives the blocks in its own
  pub word_covers : (e l : ℕ) (t : Table A) (w q : ℕ)
      → fits_word (e + l) (entry_of_word (desc_of (level_at (e + l)) w)) ≡ true
      → slot_at t (index_at (e + l) q) ≡ Word w
      → ((p : ℕ) → p / 2 ^ (9 * l) ≡ q / 2 ^ (9 * l) → index_at (e + l) p ≡ index_at (e + l) q)
      → IsOneWordAt l (entry_at (e + l) t) q
  word_covers e l t w q f y same =
      let x = entry_of_word (desc_of (level_at (e + l)) w) in
      let s = 2 ^ (9 * l) in
      let j = q / s % 2 ^ (9 * e) in
      let some = size_some e in
      let less : j < 2 ^ (9 * e) = omega (arith, some) in
      record {
        entry = advance x (j * s);
        fits = fits_below e l j x less f;
        along = λ p h.
            let sum : 9 * (e + l) ≡ 9 * e + 9 * l = omega arith in
            let place : p % 2 ^ (9 * (e + l)) ≡ j * s + p % s =
            ap (λ n. p % 2 ^ n) sum ∙ mod-pow-add p (9 * e) (9 * l) ∙ ap (λ n. n % 2 ^ (9 * e) * s + p % s) h in
            entry_word (e + l) t p w (ap (λ k. slot_at t k) (same p h) ∙ y) ∙ ap (λ n. advance x n) place
            ∙ sym (advance-more x (j * s) (p % s));
      }

  -- and a block in which no table stands is in one
  pub bare_said : (d : ℕ) (t : Table A) (low q : ℕ)
      → ((n w : ℕ) → n < 4 → IsEntryWord n w → fits_word n (entry_of_word (desc_of (level_at n) w)) ≡ true)
      → d < 4
      → IsShaped d t
      → low < d
      → table_in d t low q ≡ None
      → IsOneWordAt (low + 1) (entry_at d t) q
  bare_said zero t low q fit p h l none = absurd (omega arith)
  bare_said (suc d) t low q fit p h l none =
      let i = index_at (suc d) q in
      let small : i < 512 = omega arith in
      let same : (x : ℕ) → x / 2 ^ (9 * (low + 1)) ≡ q / 2 ^ (9 * (low + 1)) → index_at (suc d) x ≡ i =
      λ x e. index_same (suc d) low x q l e in
      let step : table_in (suc d) t low q ≡ slot_table (suc d) (slot_at t i) low q =
      table_below (suc d) low t q (λ z. let k : low < suc d = l in omega arith) in
      by_slot (slot_at t i)
      (λ w y.
      let e : d - low + (low + 1) ≡ suc d = omega arith in
      let covers = word_covers (d - low) (low + 1) t w q in
      (rw e at covers)
      (fit (suc d) w p (slot_word_is (suc d) w (slot_at t i) (shaped_slot (suc d) t i h small) y)) y same)
      (λ b y.
      let stand : table_in (suc d) t low q ≡ table_in d b.value low q =
      step ∙ stand_child (suc d) d low q b (slot_at t i) refl y in
      by_eq low d
      (λ k. let bad : Some (frame_of b.value) ≡ None = sym (table_top d low b.value q k) ∙ sym stand ∙ none in
      absurd (cc))
      (λ k.
      let less : low < d = omega arith in
      let a = bare_said d b.value low q fit (omega arith) (child_shape d t i b h small y) less (sym stand ∙ none) in
      record {
        entry = a.entry;
        fits = a.fits;
        along = λ x e. entry_child d t x b (ap (λ j. slot_at t j) (same x e) ∙ y) ∙ a.along x e;
      }))
