-- The word at a path, and the tables on it.
use Rattle.std.proofs.Common.{◌≡◌, ℕ, zero, suc, ◌+◌, ◌-◌, ◌/◌, ◌<◌, ◌≤◌, List, [], ◌∷◌, length, refl, sym, ap, arith, ◌∙◌, true, ltb, Option, Some, None, inl, inr, ◌⊎◌}
use Rattle.std.proofs.lemmas.Bool.Decides.{nat_tests}
use Rattle.std.specs.declared.boxed.Box.{Box}
use Rattle.table_tree.specs.declared.table.Table.{Table}
use Rattle.table_tree.specs.declared.table.Slot.TheVariants.{Word, Child}
use Rattle.page_state.specs.Geometries.{block_pages}
use Rattle.page_state.proofs.Cases.{by_eq}
use Rattle.table_tree.specs.Meaning.{index_at, slot_at, frame_of, word_entry, entry_at, word_at, slot_word, table_word}
use Rattle.table_tree.specs.Shape.{IsEntryWord, IsShaped}
use Rattle.table_tree.specs.Raw.{IsRaw}
use Rattle.table_tree.specs.Tables.{table_in}
use Rattle.table_tree.specs.inner.Pokes.{Leads}
use Rattle.table_tree.proofs.Slots.{by_slot, case_child, shaped_slot, slot_word_is, slot_child_is}
use Rattle.table_tree.proofs.Steps.{entry_step, word_gives, child_gives, path_end, path_over, path_stop, slot_word_here, slot_word_child}
use Rattle.table_tree.proofs.Standing.{table_top, table_below, stand_word, stand_child, by_lt}
use Rattle.table_tree.proofs.RawTables.{raw_slot, raw_child_is}
use Rattle.table_tree.proofs.PathNumbers.{Small, index_same}

-- a path that a word is at
abbrev pub IsGood : ℕ → List ℕ → Type 0
IsGood n p = (1 ≤ length p) × ((length p ≤ n + 1) × Small p)

module _ {A : Type 0} where
  child_shape : (n : ℕ) (t : Table A) (i : ℕ) (b : Box (Table A) A)
      → IsShaped n t
      → i < 512
      → slot_at t i ≡ Child b
      → (1 ≤ n) × IsShaped (n - 1) b.value
  child_shape n t i b h p e = let x = slot_child_is n b (slot_at t i) (shaped_slot n t i h p) e in (x.0, x.1)

  next_child : (t : Table A) (i j : ℕ) (r : List ℕ) (b : Box (Table A) A)
      → i < 512
      → slot_at t i ≡ Child b
      → word_at t (i ∷ j ∷ r) ≡ word_at b.value (j ∷ r)
  unfolding word_at
  next_child t i j r b h e = let z : ltb i 512 ≡ true = grind (arith, nat_tests) in
      rw (z, e) (case_child {R = Option ℕ} _ _ b)

  last_word : (t : Table A) (i : ℕ) → i < 512 → word_at t (i ∷ []) ≡ Some (slot_word (slot_at t i))
  unfolding word_at
  last_word t i h = let z : ltb i 512 ≡ true = grind (arith, nat_tests) in rw z refl

  -- each slot of the table itself has a word
  pub one_index : (t : Table A) (p : List ℕ) → 1 ≤ length p → length p ≤ 1 → Small p → word_at t p ≡ None → ⊥
  unfolding Small
  one_index t [] u v s e = absurd (omega arith)
  one_index t (i ∷ []) u v s e = let x = last_word t i s.0 in cc
  one_index t (i ∷ j ∷ r) u v s e = absurd (omega arith)

  -- where a word is, the path is one
  pub good_path : (n : ℕ) (t : Table A) (p : List ℕ) (w : ℕ) → IsRaw n t → word_at t p ≡ Some w → IsGood n p
  unfolding Small
  good_path n t [] w h e = let x = path_end t [] (omega arith) in absurd (cc)
  good_path n t (i ∷ []) w h e = by_lt i 512
      (λ l. (omega arith, (omega arith, (l, tt))))
      (λ l. let x = path_over t (i ∷ []) (omega arith) (omega arith) in absurd (cc))
  good_path n t (i ∷ j ∷ r) w h e = by_lt i 512
      (λ l. by_slot (slot_at t i)
      (λ v y. let x = path_stop t (i ∷ j ∷ r) (slot_at t i) v (omega arith) l refl y in absurd (cc))
      (λ b y.
      let s = raw_child_is n b (slot_at t i) (raw_slot n t i h l) y in
      let g = good_path (n - 1) b.value (j ∷ r) w s.1 (sym (next_child t i j r b l y) ∙ e) in
      let k : suc (length r) ≤ n - 1 + 1 = g.1.0 in
      (omega arith, (omega (arith, s.0), (l, g.1.1)))))
      (λ l. let x = path_over t (i ∷ j ∷ r) (omega arith) (omega arith) in absurd (cc))

  -- a table is found by each page of its block
  pub table_same : (n m p q : ℕ) (t : Table A)
      → m ≤ n
      → p / block_pages (m + 1) ≡ q / block_pages (m + 1)
      → table_in n t m p ≡ table_in n t m q
  table_same zero m p q t l e = let z : m ≡ 0 = omega arith in table_top zero m t p z ∙ sym (table_top zero m t q z)
  table_same (suc n) m p q t l e = by_eq m (suc n)
      (λ z. table_top (suc n) m t p z ∙ sym (table_top (suc n) m t q z))
      (λ ne.
      let i = index_same (suc n) m p q (omega arith) e in
      by_slot (slot_at t (index_at (suc n) p))
      (λ w y. table_below (suc n) m t p ne ∙ stand_word (suc n) w m p (slot_at t (index_at (suc n) p)) y
      ∙ sym (stand_word (suc n) w m q (slot_at t (index_at (suc n) q)) (ap (λ j. slot_at t j) (sym i) ∙ y))
      ∙ sym (table_below (suc n) m t q ne))
      (λ b y. table_below (suc n) m t p ne ∙ stand_child (suc n) n m p b (slot_at t (index_at (suc n) p)) refl y
      ∙ table_same n m p q b.value (omega arith) e
      ∙ sym
      (stand_child (suc n) n m q b (slot_at t (index_at (suc n) q)) refl
      (ap (λ j. slot_at t j) (sym i) ∙ y))
      ∙ sym (table_below (suc n) m t q ne)))

  -- the word is that of a table on the path
  pub record IsTableWord (n m : ℕ) (t : Table A) (p : List ℕ) (w : ℕ) : Type 0 where
    pub frame : ℕ
    pub above : 1 ≤ m
    pub word : w ≡ table_word frame
    pub stands : (q : ℕ) → Leads n q p → table_in n t (m - 1) q ≡ Some frame

  -- the word gives the pages under the path their entries
  pub record IsPagesWord (n m : ℕ) (t : Table A) (p : List ℕ) (w : ℕ) : Type 0 where
    pub formed : IsEntryWord m w
    pub gives : (q : ℕ) → Leads n q p → entry_at n t q ≡ word_entry m q w
    pub none : (q low : ℕ) → Leads n q p → low < m → table_in n t low q ≡ None

  -- the word at a path in a table with `m` levels below it
  pub record IsWordIn (n m : ℕ) (t : Table A) (p : List ℕ) (w : ℕ) : Type 0 where
    pub frame : ℕ
    pub stands : (q : ℕ) → Leads n q p → table_in n t m q ≡ Some frame
    pub is : IsTableWord n m t p w ⊎ IsPagesWord n m t p w

  -- what is at a path
  unfoldable pub IsRead : ℕ → ℕ → Table A → List ℕ → Option ℕ → Type 0
  IsRead n m t p None = (q : ℕ) → Leads n q p → table_in n t m q ≡ None
  IsRead n m t p (Some w) = IsWordIn n m t p w

  read_word : (n : ℕ) (t : Table A) (i w : ℕ)
      → IsShaped n t
      → i < 512
      → slot_at t i ≡ Word w
      → IsRead n n t (i ∷ []) (Some w)
  unfolding IsRead Leads
  read_word n t i w h l y = record {
    frame = frame_of t;
    stands = λ q x. table_top n n t q refl;
    is = inr (record {
      formed = slot_word_is n w (slot_at t i) (shaped_slot n t i h l) y;
      gives = λ q x. entry_step n t q ∙ word_gives n q w (slot_at t (index_at n q)) (ap (λ j. slot_at t j) x.0 ∙ y);
      none =
          λ q low x u. table_below n low t q (λ z. let u' : low < n = u in omega arith)
          ∙ stand_word n w low q (slot_at t (index_at n q)) (ap (λ j. slot_at t j) x.0 ∙ y);
    });
  }

  read_table : (n : ℕ) (t : Table A) (i : ℕ) (b : Box (Table A) A)
      → IsShaped n t
      → i < 512
      → slot_at t i ≡ Child b
      → IsRead n n t (i ∷ []) (Some (table_word (frame_of b.value)))
  unfolding IsRead Leads
  read_table n t i b h l y =
      let s = child_shape n t i b h l y in
      let u : 1 ≤ n = s.0 in
      record {
        frame = frame_of t;
        stands = λ q x. table_top n n t q refl;
        is = inl (record {
          frame = frame_of b.value;
          above = u;
          word = refl;
          stands =
              λ q x. table_below n (n - 1) t q (λ z. omega arith)
              ∙ stand_child n (n - 1) (n - 1) q b (slot_at t (index_at n q)) (omega arith)
              (ap (λ j. slot_at t j) x.0 ∙ y)
              ∙ table_top (n - 1) (n - 1) b.value q refl;
        });
      }

  -- what a child has at a path its parent has at the path before which its index stands
  read_below : (n m : ℕ) (t : Table A) (i j : ℕ) (r : List ℕ) (b : Box (Table A) A) (o : Option ℕ)
      → 1 ≤ n
      → m < n
      → slot_at t i ≡ Child b
      → IsRead (n - 1) m b.value (j ∷ r) o
      → IsRead n m t (i ∷ j ∷ r) o
  unfolding IsRead Leads
  read_below n m t i j r b None u v y h =
      λ q x. table_below n m t q (λ z. omega arith)
      ∙ stand_child n (n - 1) m q b (slot_at t (index_at n q)) (omega arith) (ap (λ k. slot_at t k) x.0 ∙ y)
      ∙ h q x.1
  read_below n m t i j r b (Some w) u v y h =
      let lift : (q low : ℕ) → index_at n q ≡ i → low ≤ m → table_in n t low q ≡ table_in (n - 1) b.value low q =
      λ q low x l. table_below n low t q (λ z. let l' : low ≤ m = l in omega arith)
      ∙ stand_child n (n - 1) low q b (slot_at t (index_at n q)) (omega arith) (ap (λ k. slot_at t k) x ∙ y) in
      record {
        frame = h.frame;
        stands = λ q x. lift q m x.0 (omega arith) ∙ h.stands q x.1;
        is = elim h.is as (λ _. IsTableWord n m t (i ∷ j ∷ r) w ⊎ IsPagesWord n m t (i ∷ j ∷ r) w) [
          | inl k ↦ inl
              (record {
                frame = k.frame;
                above = k.above;
                word = k.word;
                stands = λ q x. lift q (m - 1) x.0 (omega arith)
                    ∙ k.stands q x.1;
              })
          | inr k ↦ inr (record {
            formed = k.formed;
            gives =
                λ q x. entry_step n t q
                ∙ child_gives n (n - 1) q b (slot_at t (index_at n q)) (omega arith) (ap (λ z. slot_at t z) x.0 ∙ y)
                ∙ k.gives q x.1;
            none = λ q low x l. lift q low x.0 (let l' : low < m = l in omega arith) ∙ k.none q low x.1 l;
          })
        ];
      }

  pub read : (n m : ℕ) (t : Table A) (p : List ℕ)
      → IsShaped n t
      → 1 ≤ length p
      → m + length p ≡ n + 1
      → Small p
      → IsRead n m t p (word_at t p)
  unfolding IsRead Leads Small
  read n m t [] h u e s = absurd (omega arith)
  read n m t (i ∷ []) h u e s =
      let z : m ≡ n = omega arith in
      by_slot (slot_at t i)
      (λ w y. rw (z, last_word t i s.0, sym (slot_word_here w (slot_at t i) y)) (read_word n t i w h s.0 y))
      (λ b y. rw (z, last_word t i s.0, sym (slot_word_child b (slot_at t i) y)) (read_table n t i b h s.0 y))
  read n m t (i ∷ j ∷ r) h u e s =
      by_slot (slot_at t i)
      (λ w y. rw (sym (path_stop t (i ∷ j ∷ r) (slot_at t i) w (omega arith) s.0 refl y))
      (λ q x. table_below n m t q (λ z. omega arith)
      ∙ stand_word n w m q (slot_at t (index_at n q)) (ap (λ k. slot_at t k) x.0 ∙ y)))
      (λ b y.
      let c = child_shape n t i b h s.0 y in
      rw (next_child t i j r b s.0 y)
      (read_below n m t i j r b (word_at b.value (j ∷ r)) c.0 (omega arith) y
      (read (n - 1) m b.value (j ∷ r) c.1 (omega arith) (omega arith) s.1)))
