-- What a table says, slot by slot.
use Rattle.std.proofs.Common.{◌≡◌, ℕ, zero, suc, ◌+◌, ◌-◌, ◌*◌, ◌/◌, ◌%◌, ◌<◌, ◌≤◌, Bool, List, [], ◌∷◌, get_or, Option, Some, None, cond, refl, sym, ap, subst, ◌∙◌, arith}
use Rattle.std.specs.Prelude.{All, find}
use Rattle.std.proofs.lemmas.List.Elements.{All-head, All-tail}
use Rattle.std.proofs.lemmas.Nat.{div-mul-add}
use Rattle.run_list.specs.Runs.{option_advance}
use Rattle.table_words.specs.declared.profile.Profile.{Profile}
use Rattle.table_words.specs.declared.word.Decoded.{Decoded}
use Rattle.table_words.specs.declared.word.Decoded.TheVariants.{Malformed, Unmapped, Annotated, Poisoned, Locked, Cleared, Leaf, Table}
use Rattle.table_words.specs.Decoding.{decoded_of}
use Rattle.page_state.specs.Geometries.{block_pages}
use Rattle.page_state.proofs.Cases.{by_test}
use Rattle.page_state.proofs.Sizes.{size_some}
use Rattle.walked_tables.specs.declared.follow.TablePage.{TablePage}
use Rattle.walked_tables.specs.declared.reached.Reached.{Reached}
use Rattle.walked_tables.specs.declared.said.Said.{Said}
use Rattle.walked_tables.specs.Values.{advance_said, value_of}
use Rattle.walked_tables.specs.ByFrames.{along, said_by, index_at, IsWhole, led, led_at, led_case, level_at, reached_at, reached_words, tables_under, word_gives, word_on, words_of}

-- a page that is found is one of the list
pub found_in : {X : Type 0} (P : X → Type 0) (test : X → Bool) (xs : List X) (x : X)
    → find test xs ≡ Some x
    → All P xs
    → P x
found_in P test [] x e h = absurd (cc)
found_in P test (y ∷ ys) x e h = by_test (test y)
    (λ t. let same : Some y ≡ Some x = sym (ap (λ b. cond b (Some y) (find test ys)) t) ∙ e in
    let is : y ≡ x = cc in
    subst P is (All-head P y ys h))
    (λ t. found_in P test ys x (sym (ap (λ b. cond b (Some y) (find test ys)) t) ∙ e) (All-tail P y ys h))

module _ (profile : Profile) (pages : List TablePage) where
  -- what a word gives a page of its slot, its page led on to or not
  unfoldable pub slot_gives : ℕ → ℕ → ℕ → Option Said
  slot_gives zero word page = word_gives profile zero word page
  slot_gives (suc d) word page =
      led_case (word_gives profile (suc d) word page) (λ next. said_by profile pages d next page)
      (led_at profile pages (suc d) word)

  said_step : (d : ℕ) (table : TablePage) (page : ℕ)
      → said_by profile pages d table page ≡ slot_gives d (word_on d table page) page
  unfolding said_by slot_gives
  said_step zero table page = refl
  said_step (suc d) table page = refl

  gives_word : (d word page : ℕ)
      → led_at profile pages d word ≡ None
      → slot_gives d word page ≡ word_gives profile d word page
  unfolding slot_gives
  gives_word zero word page e = refl
  gives_word (suc d) word page e = rw e refl

  gives_below : (d m word page : ℕ) (next : TablePage)
      → d ≡ suc m
      → led_at profile pages d word ≡ Some next
      → slot_gives d word page ≡ said_by profile pages m next page
  unfolding slot_gives
  gives_below zero m word page next k e = absurd (omega arith)
  gives_below (suc d) m word page next k e = let same : d ≡ m = omega arith in rw (e, same) refl

  -- a table of the last level leads on to none
  pub led_above : (d word : ℕ) (next : TablePage) → led_at profile pages d word ≡ Some next → 1 ≤ d
  led_above zero word next e = absurd (cc)
  led_above (suc d) word next e = omega arith

  pub led_whole : (d word : ℕ) (next : TablePage)
      → led_at profile pages d word ≡ Some next
      → All IsWhole pages
      → IsWhole next
  led_whole zero word next e h = absurd (cc)
  led_whole (suc d) word next e h = by_desc (decoded_of profile (level_at (suc d)) word) e
    where
      by_desc : (desc : Decoded) → led pages desc ≡ Some next → IsWhole next
      by_desc Malformed e = absurd (cc)
      by_desc Unmapped e = absurd (cc)
      by_desc (Annotated owner g) e = absurd (cc)
      by_desc Poisoned e = absurd (cc)
      by_desc Locked e = absurd (cc)
      by_desc (Cleared m) e = absurd (cc)
      by_desc (Leaf m) e = absurd (cc)
      by_desc (Table frame) e = found_in IsWhole _ pages next e h

  -- the pages of a slot
  pub part_of : (s k p : ℕ) → 1 ≤ s → k * s ≤ p → p < k * s + s → p / s ≡ k
  part_of s k p h a b = let e : p ≡ k * s + (p - k * s) = omega arith in
      let l : p - k * s < s = omega arith in
      ap (λ n. n / s) e ∙ div-mul-add k s (p - k * s) l

  rest_in : (s k p : ℕ) → 1 ≤ s → k * s ≤ p → p < k * s + s → p % s ≡ p - k * s
  rest_in s k p h a b = let e : p / s * s ≡ k * s = ap (λ n. n * s) (part_of s k p h a b) in omega (arith, h, e)

  index_in : (d n i p : ℕ)
      → i < 512
      → (n * 512 + i) * block_pages d ≤ p
      → p < (n * 512 + i) * block_pages d + block_pages d
      → index_at d p ≡ i
  index_in d n i p l a b = let e : p / block_pages d ≡ n * 512 + i =
      part_of (block_pages d) (n * 512 + i) p (size_some d) a b in
      rw e (omega arith)

  module _ (d n i : ℕ) (table : TablePage) (inside : i < 512) (p : ℕ) (low : (n * 512 + i) * block_pages d ≤ p)
      (high : p < (n * 512 + i) * block_pages d + block_pages d) where
    word_is : (word : ℕ) → word ≡ get_or (words_of table) i 0 → word_on d table p ≡ word
    word_is word e = ap (λ (j : ℕ). get_or (words_of table) j 0) (index_in d n i p inside low high) ∙ sym e

    -- one whose word leads on to none
    pub says_word : (word : ℕ) (e : Option Said)
        → word ≡ get_or (words_of table) i 0
        → led_at profile pages d word ≡ None
        → e ≡ value_of (decoded_of profile (level_at d) word)
        → option_advance advance_said e (p - (n * 512 + i) * block_pages d) ≡ said_by profile pages d table p
    says_word word e is none entry =
        ap (λ x. option_advance advance_said x (p - (n * 512 + i) * block_pages d)) entry
        ∙ ap (λ m. option_advance advance_said (value_of (decoded_of profile (level_at d) word)) m)
        (sym (rest_in (block_pages d) (n * 512 + i) p (size_some d) low high))
        ∙ sym (said_step d table p ∙ ap (λ w. slot_gives d w p) (word_is word is) ∙ gives_word d word p none)

    -- and one whose word leads on
    pub says_below : (word : ℕ) (next : TablePage)
        → word ≡ get_or (words_of table) i 0
        → led_at profile pages d word ≡ Some next
        → said_by profile pages (d - 1) next p ≡ said_by profile pages d table p
    says_below word next is some =
        let above = led_above d word next some in
        sym
        (said_step d table p ∙ ap (λ w. slot_gives d w p) (word_is word is)
        ∙ gives_below d (d - 1) word p next (omega (arith, above)) some)

  module _ (tree : ℕ) where
    -- the tables below a slot
    unfoldable pub slot_tables : ℕ → ℕ → ℕ → List Reached
    slot_tables zero part word = []
    slot_tables (suc d) part word =
        led_case [] (λ next. tables_under profile pages tree d part next) (led_at profile pages (suc d) word)

    pub tables_none : (d part word : ℕ) → led_at profile pages d word ≡ None → slot_tables d part word ≡ []
    unfolding slot_tables
    tables_none zero part word e = refl
    tables_none (suc d) part word e = rw e refl

    below : (d m part word : ℕ) (next : TablePage)
        → d ≡ suc m
        → led_at profile pages d word ≡ Some next
        → slot_tables d part word ≡ tables_under profile pages tree m part next
    unfolding slot_tables
    below zero m part word next k e = absurd (omega arith)
    below (suc d) m part word next k e = let same : d ≡ m = omega arith in rw (e, same) refl

    pub tables_below : (d part word : ℕ) (next : TablePage)
        → led_at profile pages d word ≡ Some next
        → slot_tables d part word ≡ tables_under profile pages tree (d - 1) part next
    tables_below d part word next e = let above = led_above d word next e in
        below d (d - 1) part word next (omega (arith, above)) e

    along_none : (n : ℕ) (words : List ℕ) → along (slot_tables zero) n words ≡ []
    unfolding slot_tables
    along_none n [] = refl
    along_none n (w ∷ ws) = along_none (n + 1) ws

    pub tables_step : (d n : ℕ) (page : TablePage)
        → tables_under profile pages tree d n page
        ≡ reached_at tree d n page ∷ along (slot_tables d) (n * 512) (reached_words d (words_of page))
    unfolding tables_under slot_tables
    tables_step zero n page = ap (λ xs. reached_at tree zero n page ∷ xs) (sym (along_none (n * 512) (words_of page)))
    tables_step (suc d) n page = refl
