-- Changes of coarsest trees.
use Rattle.std.proofs.Common.{◌≡◌, ℕ, zero, suc, ◌+◌, ◌-◌, ◌*◌, ◌<◌, ◌≤◌, refl, sym, ap, subst, arith, ◌∙◌, inl, inr, ◌⊎◌, cond, Bool, true, false, not, ◌&&◌, ◌||◌, ◌==◌, is_some, Option, Some, None, List, length, filter, Contains, mul-le-mul_right}
use Rattle.std.proofs.lemmas.Bool.Decides.{nat_tests}
use Rattle.std.proofs.lemmas.List.Elements.{All-contains, filter_passes}
use Rattle.page_state.specs.declared.entry.Entry.{Entry}
use Rattle.page_state.specs.declared.entry.Entry.TheVariants.{Unmapped}
use Rattle.page_state.specs.Map.{Map, empty_map, is_within, update}
use Rattle.page_state.specs.Geometries.{block_pages}
use Rattle.page_state.specs.Trees.{Block, Tree, root_tree, no_tree}
use Rattle.page_state.specs.Blocks.{span, first_page, is_one_word, blocks_on}
use Rattle.page_state.specs.Tables.{Edit, keep, put, edited_map, edit_blocks, needs, need, freed, placed, cleared, edited}
use Rattle.page_state.proofs.BlockLists.{blocks_meet, contains-filter}
use Rattle.page_state.proofs.Blocks.{one_word_means}
use Rattle.page_state.proofs.Cases.{by_test, by_lt}
use Rattle.page_state.proofs.Common.{and-both, eq-same}
use Rattle.page_state.proofs.Sizes.{size_some, size_split}
use Rattle.page_state.proofs.Updates.{update_outside}
use Rattle.coarse_trees.specs.Coarsest.{IsInTree, wants_table, IsCoarsest, IsInRange, map_need}
use Rattle.coarse_trees.specs.Laws.{RootIsCoarsest, NoneIsCoarsest, EditKeepsCoarsest, NeededAreNew, FreedAreNeedless, NeedOfMaps}
use Rattle.coarse_trees.proofs.Lists.{has, contains-has, has-contains, cleared-has, placed-has, filter-same, some-of, some-made, none-of, some-cleared}
use Rattle.coarse_trees.proofs.OneWord.{one-word-same}

-- nothing is mapped

empty-said : (b : Block) → is_one_word empty_map b ≡ true
empty-said b = (one_word_means empty_map b).1 (refl, λ i l. refl)

pub none_is_coarsest : NoneIsCoarsest
none_is_coarsest depth = record {
  inside = λ b f h. cc;
  below = λ b i l. rw (empty-said b) refl;
}

root-in : (depth root f : ℕ) (b : Block) → (root_tree depth root).table b ≡ Some f → IsInTree depth b
root-in depth root f b h = by_test (b.0 == depth + 1 && b.1 == 0)
    (λ t.
    let x = and-both (b.0 == depth + 1) (b.1 == 0) t in
    let p : b.0 ≡ depth + 1 = eq-same b.0 (depth + 1) x.0 in
    let q : b.1 ≡ 0 = eq-same b.1 0 x.1 in
    let s = size_some (depth + 1 - b.0) in
    record { some = omega arith; top = omega arith; index = omega arith })
    (λ t. let bad : None ≡ Some f = rw t at h in cc)

pub root_is_coarsest : RootIsCoarsest
root_is_coarsest depth root = record {
  inside = λ b f h. root-in depth root f b h;
  below = λ b i l. let e : (b.0 == depth + 1) ≡ false = grind (arith, nat_tests) in rw (e, empty-said b) refl;
}

-- what a test of tables gives, from what it asks
settle : (h s w : Bool)
    → (not ((elim s [ true ↦ w | false ↦ false ]) && h) && (((elim s [ true ↦ false | false ↦ not w ]) && h) || s))
    ≡ cond h (not w) s
settle true true true = refl
settle true true false = refl
settle true false true = refl
settle true false false = refl
settle false true true = refl
settle false true false = refl
settle false false true = refl
settle false false false = refl

-- blocks on the range of a change
less-scaled : (a b s : ℕ) → a * s < b * s → a < b
less-scaled a b s h = by_lt a b (λ l. l) (λ l. absurd (let e = mul-le-mul_right s l in omega arith))

in-tree : (depth first count : ℕ) (b : Block)
    → first + count ≤ block_pages (depth + 1)
    → 1 ≤ b.0
    → b.0 ≤ depth
    → first_page b < first + count
    → IsInTree depth b
in-tree depth first count b r low high begins =
    let e = size_split (depth + 1) b.0 (omega arith) in
    record {
      some = low;
      top = omega arith;
      index = less-scaled b.1 (block_pages (depth + 1 - b.0)) (block_pages b.0) (omega arith);
    }

outside-none : (first count p : ℕ) → count ≤ 0 → (p < first) ⊎ (first + count ≤ p)
outside-none first count p none = by_lt p first (λ l. inl l) (λ l. inr (omega arith))

module _ (depth : ℕ) (e : Edit) where
  abbrev on : Block → Bool
  on b = has b (edit_blocks depth e)

nowhere : (depth first count : ℕ) (entry : Entry) (b : Block)
    → count ≤ 0
    → Contains (edit_blocks depth (put first count entry)) b
    → ⊥
unfolding blocks_on
nowhere depth first zero entry b l k = let less = k.1 in absurd (omega arith)
nowhere depth first (suc n) entry b l k = absurd (omega arith)

on-in : (depth : ℕ) (e : Edit) (b : Block) → IsInRange depth e → on depth e b ≡ true → IsInTree depth b × (b.0 ≤ depth)
on-in depth keep b r h = cc
on-in depth (put first count entry) b r h =
    let k = has-contains (edit_blocks depth (put first count entry)) b h in
    by_lt 0 count
    (λ some. let m = (blocks_meet depth first count b some).0 k in (in-tree depth first count b r m.0 m.1 m.2, m.1))
    (λ none. absurd (nowhere depth first count entry b none k))

-- the map of a block off the range is as before
off-same : (depth : ℕ) (e : Edit) (m : Map) (b : Block)
    → 1 ≤ b.0
    → b.0 ≤ depth
    → on depth e b ≡ false
    → (i : ℕ)
    → i < span b
    → edited_map m e (first_page b + i) ≡ m (first_page b + i)
off-same depth keep m b low high h i l = refl
off-same depth (put first count entry) m b low high h i l = update_outside m first count entry (first_page b + i)
    (by_lt 0 count
    (λ some. by_lt (first_page b) (first + count)
    (λ below. by_lt first (first_page b + span b)
    (λ above. let t =
    contains-has (edit_blocks depth (put first count entry)) b
    ((blocks_meet depth first count b some).1 (low, high, below, above)) in
    let bad : true ≡ false = sym t ∙ h in
    absurd (cc))
    (λ past. inl (omega arith)))
    (λ past. inr (omega arith)))
    (λ none. outside-none first count (first_page b + i) none))

off-word : (depth : ℕ) (e : Edit) (m : Map) (b : Block)
    → 1 ≤ b.0
    → b.0 ≤ depth
    → on depth e b ≡ false
    → is_one_word (edited_map m e) b ≡ is_one_word m b
off-word depth e m b low high h = one-word-same (edited_map m e) m b (off-same depth e m b low high h)

module _ (depth : ℕ) (t : Tree) (e : Edit) where
  abbrev after : Map
  after = edited_map t.map e

  abbrev loses : Block → Bool
  loses b = elim (is_some (t.table b)) [ true ↦ is_one_word after b | false ↦ false ]

  abbrev gains : Block → Bool
  gains b = elim (is_some (t.table b)) [ true ↦ false | false ↦ not (is_one_word after b) ]

  -- which blocks have a table afterwards
  some-after : (fs : List ℕ) (b : Block)
      → need depth t e ≤ length fs
      → is_some ((edited depth t e fs).table b) ≡ cond (on depth e b) (not (is_one_word after b)) (is_some (t.table b))
  unfolding edited needs freed
  some-after fs b h =
      let bs = edit_blocks depth e in
      ap (λ (o : Option ℕ). is_some o) (cleared-has loses bs (placed (filter gains bs) fs t.table) b)
      ∙ some-cleared (loses b && has b bs) (placed (filter gains bs) fs t.table b)
      ∙ ap (λ x. not (loses b && has b bs) && x) (placed-has gains bs fs t.table b h)
      ∙ settle (has b bs) (is_some (t.table b)) (is_one_word after b)

  map-after : (fs : List ℕ) → (edited depth t e fs).map ≡ after
  unfolding edited
  map-after fs = refl

  module _ (range : IsInRange depth e) (old : IsCoarsest depth t) where
    want-after : (b : Block)
        → IsInTree depth b
        → b.0 ≤ depth
        → cond (on depth e b) (not (is_one_word after b)) (is_some (t.table b)) ≡ wants_table after b
    want-after b i l = by_test (on depth e b)
        (λ y. rw y refl)
        (λ y. rw y (old.below b i l ∙ ap (λ w. not w) (sym (off-word depth e t.map b i.some l y))))

    in-after : (b : Block)
        → cond (on depth e b) (not (is_one_word after b)) (is_some (t.table b)) ≡ true
        → IsInTree depth b
    in-after b h = by_test (on depth e b)
        (λ y. (on-in depth e b range y).0)
        (λ y. let h' : is_some (t.table b) ≡ true = rw y at h in let x = some-of (t.table b) h' in old.inside b x.0 x.1)

    stays : (fs : List ℕ) → need depth t e ≤ length fs → IsCoarsest depth (edited depth t e fs)
    stays fs h = record {
      inside = λ b f k. in-after b (sym (some-after fs b h) ∙ some-made ((edited depth t e fs).table b) f k);
      below = λ b i l. some-after fs b h ∙ want-after b i l ∙ ap (λ (m : Map). wants_table m b) (sym (map-after fs));
    }

pub edit_keeps_coarsest : EditKeepsCoarsest
edit_keeps_coarsest depth t e fs range old h = stays depth t e range old fs h

-- tests of two Bools

gain-says : (s w : Bool) → elim s [ true ↦ false | false ↦ not w ] ≡ true → (not w ≡ true) × (s ≡ false)
gain-says true w h = cc
gain-says false w h = (h, refl)

gain-said : (s w : Bool) → not w ≡ true → s ≡ false → elim s [ true ↦ false | false ↦ not w ] ≡ true
gain-said true w h k = cc
gain-said false w h k = h

lose-says : (s w : Bool) → elim s [ true ↦ w | false ↦ false ] ≡ true → (not w ≡ false) × (s ≡ true)
lose-says true true h = (refl, refl)
lose-says true false h = cc
lose-says false w h = cc

lose-said : (s w : Bool) → not w ≡ false → s ≡ true → elim s [ true ↦ w | false ↦ false ] ≡ true
lose-said true true h k = refl
lose-said true false h k = cc
lose-said false w h k = cc

gain-maps : (s v w : Bool) → s ≡ not v → elim s [ true ↦ false | false ↦ not w ] ≡ v && not w
gain-maps s true w h = rw h refl
gain-maps s false w h = rw h refl

not-both : {P : Type 0} (w : Bool) → not w ≡ true → not w ≡ false → P
not-both w h k = let bad : true ≡ false = sym h ∙ k in absurd (cc)

-- off the range nothing is wanted that wasn't there
change-on : (depth : ℕ) (t : Tree) (e : Edit)
    → IsCoarsest depth t
    → (b : Block) (s : Bool)
    → IsInTree depth b
    → b.0 ≤ depth
    → wants_table (edited_map t.map e) b ≡ not s
    → is_some (t.table b) ≡ s
    → Contains (edit_blocks depth e) b
change-on depth t e old b s i l now was = by_test (on depth e b)
    (λ y. has-contains (edit_blocks depth e) b y)
    (λ y. let same : s ≡ not s =
    sym was ∙ old.below b i l ∙ ap (λ w. not w) (sym (off-word depth e t.map b i.some l y)) ∙ now in
    differ s same)
  where
    differ : {P : Type 0} (s : Bool) → s ≡ not s → P
    differ true h = absurd (cc)
    differ false h = absurd (cc)

pub needed_are_new : NeededAreNew
unfolding needs
needed_are_new depth t e old b i l = (
  λ k.
      let p =
      All-contains (λ a. gains depth t e a ≡ true) (filter (gains depth t e) (edit_blocks depth e)) b
      (filter_passes (gains depth t e) (edit_blocks depth e)) k in
      let x = gain-says (is_some (t.table b)) (is_one_word (edited_map t.map e) b) p in
      (x.0, none-of (t.table b) x.1),
  λ k.
      let none : is_some (t.table b) ≡ false = ap (λ (o : Option ℕ). is_some o) k.1 in
      contains-filter (gains depth t e) (edit_blocks depth e) b (change-on depth t e old b false i l k.0 none)
      (gain-said (is_some (t.table b)) (is_one_word (edited_map t.map e) b) k.0 none),
)

pub freed_are_needless : FreedAreNeedless
unfolding freed
freed_are_needless depth t e old b i l = (
  λ k.
      let p =
      All-contains (λ a. loses depth t e a ≡ true) (filter (loses depth t e) (edit_blocks depth e)) b
      (filter_passes (loses depth t e) (edit_blocks depth e)) k in
      lose-says (is_some (t.table b)) (is_one_word (edited_map t.map e) b) p,
  λ k. contains-filter (loses depth t e) (edit_blocks depth e) b (change-on depth t e old b true i l k.0 k.1)
      (lose-said (is_some (t.table b)) (is_one_word (edited_map t.map e) b) k.0 k.1),
)

pub need_of_maps : NeedOfMaps
unfolding needs
need_of_maps depth t e range old =
    ap (λ bs. length bs)
    (filter-same (gains depth t e) (λ b. is_one_word t.map b && wants_table (edited_map t.map e) b)
    (edit_blocks depth e)
    (λ b h. let i = on-in depth e b range h in
    gain-maps (is_some (t.table b)) (is_one_word t.map b) (is_one_word (edited_map t.map e) b)
    (old.below b i.0 i.1)))
