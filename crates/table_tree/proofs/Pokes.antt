-- A poke of one slot, and what it is to its table.
use Rattle.std.proofs.Common.{◌≡◌, ℕ, zero, suc, ◌+◌, ◌-◌, ◌<◌, ◌≤◌, List, [], ◌∷◌, ◌++◌, length, get_or, take, drop, refl, sym, ap, subst, arith, ◌∙◌, cond, ltb, true, Option, Some, None, IsSome}
use Rattle.std.proofs.Math.ListN.{set}
use Rattle.std.proofs.lemmas.Bool.Decides.{nat_tests}
use Rattle.std.proofs.lemmas.List.{set-get_or, take_all}
use Rattle.std.specs.declared.boxed.Box.{Box}
use Rattle.page_state.proofs.Cases.{by_eq}
use Rattle.table_tree.specs.declared.table.Table.{Table}
use Rattle.table_tree.specs.declared.table.Slot.{Slot}
use Rattle.table_tree.specs.declared.table.Slot.TheVariants.{Word, Child}
use Rattle.table_tree.specs.Meaning.{index_at, slot_at, slots_of, slot_case, slot_word, frame_of, word_entry, entry_at, word_at, table_word}
use Rattle.table_tree.specs.Shape.{IsWide, HoldsWord}
use Rattle.table_tree.specs.Slots.{slot_entry}
use Rattle.table_tree.specs.Raw.{IsRaw, IsPoked, BeginsWith}
use Rattle.table_tree.specs.inner.Pokes.{Leads, IsPokedTable}
use Rattle.table_tree.proofs.Slots.{case_word, case_child, set_here, set_others, set_twice}
use Rattle.table_tree.proofs.Steps.{entry_step, word_gives, child_gives, slot_word_here, slot_word_child, path_below, path_stop}
use Rattle.table_tree.proofs.PathNumbers.{Small}
use Rattle.table_tree.proofs.Paths.{IsGood, good_path}
use Rattle.table_tree.proofs.RawTables.{IsRawSlot, raw_wide, raw_slot, raw_word, raw_child, raw_child_is, raw_set}

one_index_path : (p : List ℕ) → length p ≡ 1 → p ≡ get_or p 0 0 ∷ []
one_index_path [] e = absurd (omega arith)
one_index_path (x ∷ []) e = refl
one_index_path (x ∷ y ∷ p) e = absurd (omega arith)

module _ {A : Type 0} where
  -- the word at a path behind a slot's index
  unfoldable pub slot_path : Slot A → List ℕ → Option ℕ
  slot_path s [] = Some (slot_word s)
  slot_path s (j ∷ rest) = slot_case (λ _. None) (λ c. word_at c (j ∷ rest)) s

  path_step : (t : Table A) (i : ℕ) (rest : List ℕ)
      → word_at t (i ∷ rest) ≡ cond (ltb i 512) (slot_path (slot_at t i) rest) None
  unfolding word_at slot_path
  path_step t i [] = refl
  path_step t i (j ∷ rest) = refl

  pub path_in : (t : Table A) (i : ℕ) (rest : List ℕ) → i < 512 → word_at t (i ∷ rest) ≡ slot_path (slot_at t i) rest
  path_in t i rest h = let z : ltb i 512 ≡ true = grind (arith, nat_tests) in
      path_step t i rest ∙ ap (λ b. cond b (slot_path (slot_at t i) rest) None) z

  no_path : (t : Table A) → word_at t [] ≡ None
  unfolding word_at
  no_path t = refl

  -- paths through a word, and through a child
  word_path : (s : Slot A) (w : ℕ) → s ≡ Word w → slot_path s [] ≡ Some w
  unfolding slot_path
  word_path s w e = ap Some (sym (slot_word_here w s e))

  word_ends : (s : Slot A) (w j : ℕ) (rest : List ℕ) → s ≡ Word w → slot_path s (j ∷ rest) ≡ None
  unfolding slot_path
  word_ends s w j rest e = rw e (case_word {R = Option ℕ} _ _ w)

  child_path : (b : Box (Table A) A) → slot_path (Child b) [] ≡ Some (table_word (frame_of b.value))
  unfolding slot_path
  child_path b = ap Some (sym (slot_word_child b (Child b) refl))

  child_leads : (b : Box (Table A) A) (j : ℕ) (rest : List ℕ)
      → slot_path (Child b) (j ∷ rest) ≡ word_at b.value (j ∷ rest)
  unfolding slot_path
  child_leads b j rest = case_child {R = Option ℕ} _ _ b

  path_here : (s : Slot A) → slot_path s [] ≡ Some (slot_word s)
  unfolding slot_path
  path_here s = refl

  -- the slot `r` is `s` with the word at a path poked
  pub record IsPokedSlot (d : ℕ) (s r : Slot A) (p : List ℕ) (word : ℕ) : Type 0 where
    pub shape : IsRawSlot d r
    pub words : IsPoked (slot_path s) (slot_path r) p word
    pub same : slot_path s p ≡ Some word → (q : ℕ) → slot_entry d r q ≡ slot_entry d s q
    pub outside : (q : ℕ) → (Leads (d - 1) q p → ⊥) → slot_entry d r q ≡ slot_entry d s q
    pub within : (slot_path s p ≡ Some word → ⊥)
        → (q : ℕ)
        → Leads (d - 1) q p
        → slot_entry d r q ≡ word_entry (d - length p) q word

  -- a slot that holds the word already
  pub slot_stays : (d : ℕ) (s : Slot A) (word : ℕ) → IsRawSlot d s → slot_word s ≡ word → IsPokedSlot d s s [] word
  unfolding Leads
  slot_stays d s word h e =
      let here : slot_path s [] ≡ Some word = path_here s ∙ ap Some e in
      record {
        shape = h;
        words = record {
          there = here;
          elsewhere = λ q x. refl;
          same = λ x q. refl;
          behind = λ x i rest. absurd (x here);
        };
        same = λ x q. refl;
        outside = λ q x. refl;
        within = λ x q l. absurd (x here);
      }

  -- another word over what a slot holds
  pub slot_word_over : (d : ℕ) (s : Slot A) (word : ℕ) → (slot_word s ≡ word → ⊥) → IsPokedSlot d s (Word word) [] word
  unfolding Leads
  slot_word_over d s word n =
      let other : slot_path s [] ≡ Some word → ⊥ =
      λ x. let y : Some (slot_word s) ≡ Some word = sym (path_here s) ∙ x in
      n (cc) in
      record {
        shape = raw_word d word (Word word) refl;
        words = record {
          there = word_path (Word word) word refl;
          elsewhere = λ q x. absurd (x (q, refl));
          same = λ x q. absurd (other x);
          behind = λ x i rest. word_ends (Word word) word i rest refl;
        };
        same = λ x q. absurd (other x);
        outside = λ q x. absurd (x tt);
        within = λ x q l. let z : d - 0 ≡ d = omega arith in
            word_gives d q word (Word word) refl ∙ ap (λ k. word_entry k q word) (sym z);
      }

  -- a child that was poked
  module _ (d word j : ℕ) (rest : List ℕ) (b c : Box (Table A) A) (one : 1 ≤ d)
      (h : IsPokedTable (d - 1) b.value c.value (j ∷ rest) word) where
    same_head : (q : List ℕ)
        → ((k : ℕ) (r : List ℕ) → q ≡ k ∷ r → word_at c.value q ≡ word_at b.value q)
        → slot_path (Child c) q ≡ slot_path (Child b) q
    same_head [] e = child_path c ∙ ap (λ f. Some (table_word f)) h.frame ∙ sym (child_path b)
    same_head (k ∷ r) e = child_leads c k r ∙ e k r refl ∙ sym (child_leads b k r)

    was : slot_path (Child b) (j ∷ rest) ≡ Some word → word_at b.value (j ∷ rest) ≡ Some word
    was x = sym (child_leads b j rest) ∙ x

    was_not : (slot_path (Child b) (j ∷ rest) ≡ Some word → ⊥) → word_at b.value (j ∷ rest) ≡ Some word → ⊥
    was_not x y = x (child_leads b j rest ∙ y)

    gives : (x : Box (Table A) A) (q : ℕ) → slot_entry d (Child x) q ≡ entry_at (d - 1) x.value q
    gives x q = child_gives d (d - 1) q x (Child x) (omega arith) refl

    pub slot_child_poked : IsPokedSlot d (Child b) (Child c) (j ∷ rest) word
    slot_child_poked = record {
      shape = raw_child d (d - 1) c (Child c) (omega arith) refl h.shape;
      words = record {
        there = child_leads c j rest ∙ h.words.there;
        elsewhere = λ q x. same_head q (λ k r e. h.words.elsewhere q x);
        same = λ x q. same_head q (λ k r e. h.words.same (was x) q);
        behind = λ x i r. child_leads c j (rest ++ i ∷ r) ∙ h.words.behind (was_not x) i r;
      };
      same = λ x q. gives c q ∙ h.same (was x) q ∙ sym (gives b q);
      outside = λ q x. gives c q ∙ h.outside q x ∙ sym (gives b q);
      within = λ x q l. let z : d - 1 + 1 - length (j ∷ rest) ≡ d - length (j ∷ rest) = omega arith in
          gives c q ∙ h.within (was_not x) q l ∙ ap (λ k. word_entry k q word) z;
    }

  -- a table, of which slot `i` was poked
  module _ (d i word : ℕ) (p : List ℕ) (t u : Table A) (s : Slot A) (raw : IsRaw d t) (l : i < 512)
      (e : slots_of u ≡ set (slots_of t) i s) (f : frame_of u ≡ frame_of t)
      (h : IsPokedSlot d (slot_at t i) s p word) where
    here : (k : ℕ) → k ≡ i → slot_at u k ≡ s
    here k z = set_here t u i k s e l (raw_wide d t raw) z

    after_is : (q : List ℕ) → word_at u (i ∷ q) ≡ slot_path s q
    after_is q = path_in u i q l ∙ ap (λ x. slot_path x q) (here i refl)

    before_is : (q : List ℕ) → word_at t (i ∷ q) ≡ slot_path (slot_at t i) q
    before_is q = path_in t i q l

    other_path : (k : ℕ) (q : List ℕ) → (k ≡ i → ⊥) → word_at u (k ∷ q) ≡ word_at t (k ∷ q)
    other_path k q n =
        path_step u k q ∙ ap (λ x. cond (ltb k 512) (slot_path x q) None) (set_others t u i k s e n)
        ∙ sym (path_step t k q)

    by_path : (q : List ℕ)
        → ((r : List ℕ) → q ≡ i ∷ r → slot_path s r ≡ slot_path (slot_at t i) r)
        → word_at u q ≡ word_at t q
    by_path [] g = no_path u ∙ sym (no_path t)
    by_path (k ∷ r) g = by_eq k i
        (λ z. ap (λ x. word_at u (x ∷ r)) z ∙ after_is r ∙ g r (ap (λ x. x ∷ r) z) ∙ sym (before_is r)
        ∙ sym (ap (λ x. word_at t (x ∷ r)) z))
        (λ n. other_path k r n)

    by_page : (q : ℕ)
        → (index_at d q ≡ i → slot_entry d s q ≡ slot_entry d (slot_at t i) q)
        → entry_at d u q ≡ entry_at d t q
    by_page q g = by_eq (index_at d q) i
        (λ z. entry_step d u q ∙ ap (λ x. slot_entry d x q) (here (index_at d q) z) ∙ g z
        ∙ sym (entry_step d t q ∙ ap (λ k. slot_entry d (slot_at t k) q) z))
        (λ n. entry_step d u q ∙ ap (λ x. slot_entry d x q) (set_others t u i (index_at d q) s e n)
        ∙ sym (entry_step d t q))

    held : word_at t (i ∷ p) ≡ Some word → slot_path (slot_at t i) p ≡ Some word
    held x = sym (before_is p) ∙ x

    held_not : (word_at t (i ∷ p) ≡ Some word → ⊥) → slot_path (slot_at t i) p ≡ Some word → ⊥
    held_not x y = x (before_is p ∙ y)

    pub table_poked : IsPokedTable d t u (i ∷ p) word
    unfolding Leads
    table_poked = record {
      shape = raw_set d t u i s raw l e h.shape;
      frame = f;
      words = record {
        there = after_is p ∙ h.words.there;
        elsewhere = λ q x. by_path q (λ r y. h.words.elsewhere r (λ z. x (z.0, y ∙ ap (λ k. i ∷ k) z.1)));
        same = λ x q. by_path q (λ r y. h.words.same (held x) r);
        behind = λ x k r. after_is (p ++ k ∷ r) ∙ h.words.behind (held_not x) k r;
      };
      same = λ x q. by_page q (λ z. h.same (held x) q);
      outside = λ q x. by_page q (λ z. h.outside q (λ y. x (z, y)));
      within = λ x q y. let z : d - length p ≡ d + 1 - length (i ∷ p) = omega arith in
          entry_step d u q ∙ ap (λ k. slot_entry d k q) (here (index_at d q) y.0) ∙ h.within (held_not x) q y.1
          ∙ ap (λ k. word_entry k q word) z;
    }

  -- paths of one index
  pub poked_same : (d word : ℕ) (p : List ℕ) (t u : Table A)
      → IsRaw d t
      → length p ≡ 1
      → get_or p 0 0 < 512
      → slot_word (slot_at t (get_or p 0 0)) ≡ word
      → slots_of u ≡ slots_of t
      → frame_of u ≡ frame_of t
      → IsPokedTable d t u p word
  poked_same d word p t u raw one l w e f =
      let i = get_or p 0 0 in
      let back : slots_of u ≡ set (slots_of t) (get_or p 0 0) (slot_at t (get_or p 0 0)) =
      e ∙ sym (set-get_or (slots_of t) (get_or p 0 0) (Word 0)) in
      subst (λ x. IsPokedTable d t u x word) (sym (one_index_path p one))
      (table_poked d i word [] t u (slot_at t i) raw l back f
      (slot_stays d (slot_at t i) word (raw_slot d t i raw l) w))

  pub poked_other : (d word : ℕ) (p : List ℕ) (t u : Table A)
      → IsRaw d t
      → length p ≡ 1
      → get_or p 0 0 < 512
      → (slot_word (slot_at t (get_or p 0 0)) ≡ word → ⊥)
      → slots_of u ≡ set (slots_of t) (get_or p 0 0) (Word word)
      → frame_of u ≡ frame_of t
      → IsPokedTable d t u p word
  poked_other d word p t u raw one l n e f =
      let i = get_or p 0 0 in
      subst (λ x. IsPokedTable d t u x word) (sym (one_index_path p one))
      (table_poked d i word [] t u (Word word) raw l e f (slot_word_over d (slot_at t i) word n))

  -- paths of more
  pub poked_below : (d word : ℕ) (p : List ℕ) (t m u : Table A) (b c : Box (Table A) A)
      → IsRaw d t
      → 2 ≤ length p
      → get_or p 0 0 < 512
      → 1 ≤ d
      → slot_at t (get_or p 0 0) ≡ Child b
      → slots_of m ≡ set (slots_of t) (get_or p 0 0) (Word 0)
      → slots_of u ≡ set (slots_of m) (get_or p 0 0) (Child c)
      → frame_of m ≡ frame_of t
      → frame_of u ≡ frame_of m
      → IsPokedTable (d - 1) b.value c.value (take (length p - 1) (drop 1 p)) word → IsPokedTable d t u p word
  poked_below d word [] t m u b c raw two l one k em eu fm fu h = absurd (omega arith)
  poked_below d word (i ∷ []) t m u b c raw two l one k em eu fm fu h = absurd (omega arith)
  poked_below d word (i ∷ j ∷ r) t m u b c raw two l one k em eu fm fu h =
      let e : slots_of u ≡ set (slots_of t) i (Child c) =
      eu ∙ ap (λ x. set x i (Child c)) em ∙ set_twice (slots_of t) i (Word 0) (Child c) in
      let g : IsPokedTable (d - 1) b.value c.value (j ∷ r) word =
      subst (λ x. IsPokedTable (d - 1) b.value c.value x word)
      (take_all (length (i ∷ j ∷ r) - 1) (j ∷ r) (omega arith)) h in
      table_poked d i word (j ∷ r) t u (Child c) raw l e (fu ∙ fm)
      (subst (λ x. IsPokedSlot d x (Child c) (j ∷ r) word) (sym k) (slot_child_poked d word j r b c one g))

value_of : (o : Option ℕ) → IsSome o → (w : ℕ) × (o ≡ Some w)
value_of None h = absurd (cc)
value_of (Some w) h = (w, refl)

first_small : (p : List ℕ) → 1 ≤ length p → Small p → get_or p 0 0 < 512
unfolding Small
first_small [] l h = absurd (omega arith)
first_small (i ∷ r) l h = h.0

module _ {A : Type 0} where
  -- a path that has a word
  pub there_good : (d : ℕ) (t : Table A) (p : List ℕ) → IsRaw d t → IsSome (word_at t p) → IsGood d p
  there_good d t p raw h = let x = value_of (word_at t p) h in good_path d t p x.0 raw x.1

  pub there_first : (d : ℕ) (t : Table A) (p : List ℕ) → IsRaw d t → IsSome (word_at t p) → get_or p 0 0 < 512
  there_first d t p raw h = let x = there_good d t p raw h in first_small p x.0 x.1.1

  pub there_below : (t : Table A) (p : List ℕ) (b : Box (Table A) A)
      → 2 ≤ length p
      → get_or p 0 0 < 512
      → slot_at t (get_or p 0 0) ≡ Child b
      → IsSome (word_at t p)
      → IsSome (word_at b.value (take (length p - 1) (drop 1 p)))
  there_below t p b two l k h = rw (path_below t p (slot_at t (get_or p 0 0)) b two l refl k) h

  pub there_stops : (t : Table A) (p : List ℕ)
      → 2 ≤ length p
      → get_or p 0 0 < 512
      → HoldsWord (slot_at t (get_or p 0 0))
      → IsSome (word_at t p)
      → ⊥
  there_stops t p two l k h =
      let x = path_stop t p (slot_at t (get_or p 0 0)) k.0 two l refl k.1 in
      let y = value_of (word_at t p) h in
      let z : None ≡ Some y.0 = x ∙ y.1 in
      cc

  -- whether a slot has a word
  pub by_word : {P : Type 0} (s : Slot A) (word : ℕ) → (slot_word s ≡ word → P) → ((slot_word s ≡ word → ⊥) → P) → P
  by_word s word f g = by_eq (slot_word s) word f g

  pub there_two : (d : ℕ) (t : Table A) (p : List ℕ)
      → IsRaw d t
      → IsSome (word_at t p)
      → (length p ≡ 1 → ⊥)
      → 2 ≤ length p
  there_two d t p raw h n = let x = (there_good d t p raw h).0 in omega (arith, x, n)

  pub there_child : (d : ℕ) (t : Table A) (p : List ℕ) (b : Box (Table A) A)
      → IsRaw d t
      → IsSome (word_at t p)
      → slot_at t (get_or p 0 0) ≡ Child b
      → (1 ≤ d) × IsRaw (d - 1) b.value
  there_child d t p b raw h k =
      raw_child_is d b (slot_at t (get_or p 0 0)) (raw_slot d t (get_or p 0 0) raw (there_first d t p raw h)) k
