-- Frames of tables: what a change of a tree takes from the pool, and what it gives back.
use Rattle.std.proofs.Common.{◌≡◌, ℕ, zero, suc, ◌+◌, ◌-◌, ◌≤◌, ◌<◌, refl, ap, sym, ◌∙◌, subst, arith, inl, inr, List, [], ◌∷◌, length, take}
use Rattle.std.specs.Prelude.{Bool, true, false, not, ◌&&◌, ◌==◌, ◌*◌, Option, Some, None, is_some, if◌then◌else◌, filter_map, All, AllPairs, Contains}
use Rattle.std.specs.List.{cons_option}
use Rattle.std.proofs.Common.{mul-le-mul_right}
use Rattle.std.proofs.lemmas.List.Elements.{All-nil, All-weaker, All-filter, filter_passes, All-contains_itself}
use Rattle.std.proofs.lemmas.List.Kept.{AllPairs-filter}
use Rattle.page_state.specs.Blocks.{first_page, blocks_on, is_one_word, block_eq}
use Rattle.page_state.specs.Laws.{ComesBefore}
use Rattle.page_state.specs.Tables.{Edit, keep, put, edited_map, edit_blocks, needs, need, freed, returned, edited, placed, cleared}
use Rattle.page_state.proofs.BlockLists.{blocks_meet, blocks_ordered, contains-filter}
use Rattle.page_state.proofs.Cases.{by_lt, by_eq}
use Rattle.page_state.proofs.Sizes.{size_split}
use Rattle.std.proofs.lemmas.Bool.Decides.{nat_tests}
use Rattle.page_state.specs.Counts.{is_one, frame_count}
use Rattle.page_state.specs.Geometries.{block_pages}
use Rattle.page_state.specs.Search.{count_below}
use Rattle.page_state.specs.Trees.{Block, Tree}
use Rattle.reference_model.specs.model.Owner.{count_blocks, is_frame}
use Rattle.coarse_trees.specs.Coarsest.{IsInTree, IsInRange}
use Rattle.reference_model.specs.help.Conditions.{one, table_uses}
use Rattle.page_state.proofs.Common.{both, eq-self, if-true, if-false}
use Rattle.page_state.proofs.Counts.{count_next}
use Rattle.page_state.proofs.BlockTests.{block-same, block_eq-same}

-- counts of two tests that differ at one number at most

below-same : (n : ℕ) (s t : ℕ → Bool) → ((j : ℕ) → j < n → s j ≡ t j) → count_below n s ≡ count_below n t
below-same zero s t h = refl
below-same (suc n) s t h = let here : s n ≡ t n = h n (omega arith) in
    let more = below-same n s t (λ j less. h j (omega arith)) in
    rw (count_below, here, more)

below-put : (n k : ℕ) (s t : ℕ → Bool)
    → k < n
    → ((j : ℕ) → (j ≡ k → ⊥) → s j ≡ t j)
    → count_below n s + one (t k) ≡ count_below n t + one (s k)
below-put zero k s t less h = absurd (omega arith)
below-put (suc n) k s t less h = by_eq k n
    (λ e.
    let same : count_below n s ≡ count_below n t =
    below-same n s t (λ j low. h j (λ p. let bad : j ≡ n = p ∙ e in omega arith)) in
    let a : one (t k) ≡ one (t n) = ap (λ j. one (t j)) e in
    let b : one (s k) ≡ one (s n) = ap (λ j. one (s j)) e in
    add-both (one (s n)) (one (t n)) (count_below n s) (count_below n t) (one (s k)) (one (t k)) same a b)
    (λ apart.
    let here : one (s n) ≡ one (t n) = ap one (h n (λ p. apart (sym p))) in
    let more = below-put n k s t (grind (arith, nat_tests)) h in
    add-rest (one (s n)) (one (t n)) (count_below n s) (count_below n t) (one (s k)) (one (t k)) here more)
  where
    add-both : (sn tn a b sk tk : ℕ) → a ≡ b → tk ≡ tn → sk ≡ sn → (sn + a) + tk ≡ (tn + b) + sk
    add-both sn tn a b sk tk p q r = omega arith

    add-rest : (sn tn a b sk tk : ℕ) → sn ≡ tn → a + tk ≡ b + sk → (sn + a) + tk ≡ (tn + b) + sk
    add-rest sn tn a b sk tk p q = omega arith

depth-differs : (d e i j : ℕ) → (d ≡ e → ⊥) → ◌≡◌ {A = Block} (d, i) (e, j) → ⊥
depth-differs d e i j h p = h (ap (λ (b : Block). b.0) p)

index-differs : (d i j : ℕ) → (i ≡ j → ⊥) → ◌≡◌ {A = Block} (d, i) (d, j) → ⊥
index-differs d i j h p = h (ap (λ (b : Block). b.1) p)

blocks-same : (top d : ℕ) (s t : Block → Bool)
    → ((b : Block) → b.0 ≤ d → s b ≡ t b)
    → count_blocks top d s ≡ count_blocks top d t
blocks-same top zero s t h = refl
blocks-same top (suc d) s t h =
    let a =
    below-same (block_pages (top - suc d)) (λ i. s (suc d, i)) (λ i. t (suc d, i))
    (λ i less. h (suc d, i) (omega arith)) in
    let b = blocks-same top d s t (λ x low. h x (omega arith)) in
    omega (arith, a, b)

blocks-put : (top d : ℕ) (a : Block) (s t : Block → Bool)
    → 1 ≤ a.0
    → a.0 ≤ d
    → a.1 < block_pages (top - a.0)
    → ((b : Block) → (b ≡ a → ⊥) → s b ≡ t b)
    → count_blocks top d s + one (t a) ≡ count_blocks top d t + one (s a)
blocks-put top zero a s t low high less h = absurd (omega arith)
blocks-put top (suc d) a s t low high less h = by_eq (a.0) (suc d)
    (λ e.
    let is : ◌≡◌ {A = Block} (suc d, a.1) a = block-same (sym e) refl in
    let inside : a.1 < block_pages (top - suc d) = subst (λ k. a.1 < block_pages (top - k)) e less in
    let here =
    below-put (block_pages (top - suc d)) (a.1) (λ i. s (suc d, i)) (λ i. t (suc d, i)) inside
    (λ j apart. h (suc d, j) (λ p. index-differs (suc d) j (a.1) apart (p ∙ sym is))) in
    let more : count_blocks top d s ≡ count_blocks top d t =
    blocks-same top d s t
    (λ b under. h b (λ p. let bad : b.0 ≡ suc d = ap (λ (x : Block). x.0) p ∙ e in omega arith)) in
    let p : one (t (suc d, a.1)) ≡ one (t a) = ap (λ b. one (t b)) is in
    let q : one (s (suc d, a.1)) ≡ one (s a) = ap (λ b. one (s b)) is in
    sum-here (count_below (block_pages (top - suc d)) (λ i. s (suc d, i)))
    (count_below (block_pages (top - suc d)) (λ i. t (suc d, i))) (count_blocks top d s) (count_blocks top d t)
    (one (s a)) (one (t a)) (one (s (suc d, a.1))) (one (t (suc d, a.1))) here more p q)
    (λ apart.
    let here =
    below-same (block_pages (top - suc d)) (λ i. s (suc d, i)) (λ i. t (suc d, i))
    (λ i under. h (suc d, i) (λ p. apart (sym (ap (λ (x : Block). x.0) p)))) in
    let more = blocks-put top d a s t low (grind (arith, nat_tests)) less h in
    sum-there (count_below (block_pages (top - suc d)) (λ i. s (suc d, i)))
    (count_below (block_pages (top - suc d)) (λ i. t (suc d, i))) (count_blocks top d s) (count_blocks top d t)
    (one (s a)) (one (t a)) here more)
  where
    sum-here : (x y a b s t s' t' : ℕ) → x + t' ≡ y + s' → a ≡ b → t' ≡ t → s' ≡ s → (x + a) + t ≡ (y + b) + s
    sum-here x y a b s t s' t' p q r u = omega arith

    sum-there : (x y a b s t : ℕ) → x ≡ y → a + t ≡ b + s → (x + a) + t ≡ (y + b) + s
    sum-there x y a b s t p q = omega arith

-- uses of a frame by tables

-- how many tables have the frame, by the table at each block
unfoldable pub uses_of : ℕ → (Block → Option ℕ) → ℕ → ℕ
uses_of depth table f = count_blocks (depth + 1) (depth + 1) (λ b. is_frame f (table b))

pub uses-put : (depth f : ℕ) (a : Block) (new old : Block → Option ℕ)
    → IsInTree depth a
    → ((b : Block) → (b ≡ a → ⊥) → new b ≡ old b)
    → uses_of depth new f + one (is_frame f (old a)) ≡ uses_of depth old f + one (is_frame f (new a))
unfolding uses_of
uses-put depth f a new old inside h =
    blocks-put (depth + 1) (depth + 1) a (λ b. is_frame f (new b))
    (λ b. is_frame f (old b)) inside.some inside.top inside.index (λ b apart. ap (is_frame f) (h b apart))

pub block-other : (a b : Block) → (b ≡ a → ⊥) → block_eq a b ≡ false
block-other a b h = elim (both (block_eq a b)) [ inl e ↦ absurd (h (sym (block_eq-same a b e))) | inr e ↦ e ]

pub block-self : (a : Block) → block_eq a a ≡ true
block-self a = go (a.0 == a.0) (a.1 == a.1) (eq-self a.0) (eq-self a.1)
  where
    go : (x y : Bool) → x ≡ true → y ≡ true → x && y ≡ true
    go true y p q = q
    go false y p q = cc

-- no block of the list is this one
abbrev pub IsAbsent : Block → List Block → Type 0
IsAbsent b [] = Unit {0}
IsAbsent b (a ∷ bs) = (block_eq a b ≡ false) × IsAbsent b bs

-- the blocks are of the tree, each once, and have no table
abbrev pub AreBare : ℕ → (Block → Option ℕ) → List Block → Type 0
AreBare depth old [] = Unit {0}
AreBare depth old (a ∷ bs) = IsInTree depth a × (old a ≡ None) × IsAbsent a bs × AreBare depth old bs

-- the blocks are of the tree, each once
abbrev pub AreOnce : ℕ → List Block → Type 0
AreOnce depth [] = Unit {0}
AreOnce depth (a ∷ bs) = IsInTree depth a × IsAbsent a bs × AreOnce depth bs

pub placed-absent : (bs : List Block) (fs : List ℕ) (old : Block → Option ℕ) (b : Block)
    → IsAbsent b bs
    → placed bs fs old b ≡ old b
placed-absent [] fs old b h = refl
placed-absent (a ∷ bs) [] old b h = refl
placed-absent (a ∷ bs) (f ∷ fs) old b h =
    if-false (block_eq a b) (Some f) (placed bs fs old b) h.0 ∙ placed-absent bs fs old b h.1

pub cleared-absent : (bs : List Block) (old : Block → Option ℕ) (b : Block) → IsAbsent b bs → cleared bs old b ≡ old b
cleared-absent [] old b h = refl
cleared-absent (a ∷ bs) old b h = if-false (block_eq a b) None (cleared bs old b) h.0 ∙ cleared-absent bs old b h.1

one-frame : (f g : ℕ) → one (is_frame f (Some g)) ≡ is_one g f
one-frame f g = refl

pub placed-uses : (depth f : ℕ) (bs : List Block) (fs : List ℕ) (old : Block → Option ℕ)
    → AreBare depth old bs
    → length bs ≤ length fs
    → uses_of depth (placed bs fs old) f ≡ uses_of depth old f + frame_count f (take (length bs) fs)
placed-uses depth f [] fs old bare less = nothing (uses_of depth old f)
  where
    nothing : (n : ℕ) → n ≡ n + frame_count f (take 0 fs)
    nothing n = omega arith
placed-uses depth f (a ∷ bs) [] old bare less = absurd (omega arith)
placed-uses depth f (a ∷ bs) (g ∷ fs) old bare less =
    let new = placed (a ∷ bs) (g ∷ fs) old in
    let rest = placed bs fs old in
    let none : rest a ≡ None = placed-absent bs fs old a bare.2 ∙ bare.1 in
    let here : new a ≡ Some g = if-true (block_eq a a) (Some g) (rest a) (block-self a) in
    let put =
    uses-put depth f a new rest bare.0
    (λ b apart. if-false (block_eq a b) (Some g) (rest b) (block-other a b apart)) in
    let more = placed-uses depth f bs fs old bare.3 (omega arith) in
    let next = count_next f g (take (length bs) fs) in
    let p : one (is_frame f (rest a)) ≡ 0 = ap (λ o. one (is_frame f o)) none in
    let q : one (is_frame f (new a)) ≡ is_one g f = ap (λ o. one (is_frame f o)) here in
    sum (uses_of depth new f) (uses_of depth rest f) (uses_of depth old f) (one (is_frame f (rest a)))
    (one (is_frame f (new a))) (is_one g f) (frame_count f (take (length bs) fs))
    (frame_count f (take (length (a ∷ bs)) (g ∷ fs))) put more next p q
  where
    sum : (n r o p q g c m : ℕ) → n + p ≡ r + q → r ≡ o + c → m ≡ g + c → p ≡ 0 → q ≡ g → n ≡ o + m
    sum n r o p q g c m a b d e h = omega arith

count-option : (f : ℕ) (o : Option ℕ) (xs : List ℕ)
    → frame_count f (cons_option o xs) ≡ one (is_frame f o) + frame_count f xs
count-option f None xs = omega arith
count-option f (Some g) xs = count_next f g xs

-- the tables at the blocks are the old ones
abbrev pub AreRead : (new old : Block → Option ℕ) → List Block → Type 0
AreRead new old [] = Unit {0}
AreRead new old (a ∷ bs) = (new a ≡ old a) × AreRead new old bs

pub cleared-uses : (depth f : ℕ) (bs : List Block) (new old : Block → Option ℕ)
    → AreOnce depth bs
    → AreRead new old bs
    → uses_of depth (cleared bs new) f + frame_count f (filter_map old bs) ≡ uses_of depth new f
cleared-uses depth f [] new old once same = nothing (uses_of depth new f)
  where
    nothing : (n : ℕ) → n + frame_count f [] ≡ n
    nothing n = omega arith
cleared-uses depth f (a ∷ bs) new old once same =
    let after = cleared (a ∷ bs) new in
    let rest = cleared bs new in
    let at : rest a ≡ old a = cleared-absent bs new a once.1 ∙ same.0 in
    let here : after a ≡ None = if-true (block_eq a a) None (rest a) (block-self a) in
    let put =
    uses-put depth f a after rest once.0
    (λ b apart. if-false (block_eq a b) None (rest b) (block-other a b apart)) in
    let more = cleared-uses depth f bs new old once.2 same.1 in
    let next = count-option f (old a) (filter_map old bs) in
    let p : one (is_frame f (rest a)) ≡ one (is_frame f (old a)) = ap (λ o. one (is_frame f o)) at in
    let q : one (is_frame f (after a)) ≡ 0 = ap (λ o. one (is_frame f o)) here in
    sum (uses_of depth after f) (uses_of depth rest f) (uses_of depth new f) (one (is_frame f (rest a)))
    (one (is_frame f (after a))) (one (is_frame f (old a))) (frame_count f (filter_map old bs))
    (frame_count f (filter_map old (a ∷ bs))) put more next p q
  where
    sum : (n r o p q g c m : ℕ) → n + p ≡ r + q → r + c ≡ o → m ≡ g + c → p ≡ g → q ≡ 0 → n + m ≡ o
    sum n r o p q g c m a b d e h = omega arith

-- how many blocks have a table

unfoldable pub some_of : ℕ → (Block → Option ℕ) → ℕ
some_of depth table = count_blocks (depth + 1) (depth + 1) (λ b. is_some (table b))

pub some-put : (depth : ℕ) (a : Block) (new old : Block → Option ℕ)
    → IsInTree depth a
    → ((b : Block) → (b ≡ a → ⊥) → new b ≡ old b)
    → some_of depth new + one (is_some (old a)) ≡ some_of depth old + one (is_some (new a))
unfolding some_of
some-put depth a new old inside h =
    blocks-put (depth + 1) (depth + 1) a (λ b. is_some (new b))
    (λ b. is_some (old b)) inside.some inside.top inside.index (λ b apart. ap is_some (h b apart))

placed-some : (depth : ℕ) (bs : List Block) (fs : List ℕ) (old : Block → Option ℕ)
    → AreBare depth old bs
    → length bs ≤ length fs
    → some_of depth (placed bs fs old) ≡ some_of depth old + length bs
placed-some depth [] fs old bare less = nothing (some_of depth old)
  where
    nothing : (n : ℕ) → n ≡ n + 0
    nothing n = omega arith
placed-some depth (a ∷ bs) [] old bare less = absurd (omega arith)
placed-some depth (a ∷ bs) (g ∷ fs) old bare less =
    let new = placed (a ∷ bs) (g ∷ fs) old in
    let rest = placed bs fs old in
    let none : rest a ≡ None = placed-absent bs fs old a bare.2 ∙ bare.1 in
    let here : new a ≡ Some g = if-true (block_eq a a) (Some g) (rest a) (block-self a) in
    let put =
    some-put depth a new rest bare.0
    (λ b apart. if-false (block_eq a b) (Some g) (rest b) (block-other a b apart)) in
    let more = placed-some depth bs fs old bare.3 (omega arith) in
    let p : one (is_some (rest a)) ≡ 0 = ap (λ o. one (is_some o)) none in
    let q : one (is_some (new a)) ≡ 1 = ap (λ o. one (is_some o)) here in
    sum (some_of depth new) (some_of depth rest) (some_of depth old) (one (is_some (rest a))) (one (is_some (new a)))
    (length bs) put more p q
  where
    sum : (n r o p q m : ℕ) → n + p ≡ r + q → r ≡ o + m → p ≡ 0 → q ≡ 1 → n ≡ o + suc m
    sum n r o p q m a b d e = omega arith

some-option : (o : Option ℕ) (xs : List ℕ) → length (cons_option o xs) ≡ one (is_some o) + length xs
some-option None xs = omega arith
some-option (Some g) xs = omega arith

cleared-some : (depth : ℕ) (bs : List Block) (new old : Block → Option ℕ)
    → AreOnce depth bs
    → AreRead new old bs
    → some_of depth (cleared bs new) + length (filter_map old bs) ≡ some_of depth new
cleared-some depth [] new old once same = nothing (some_of depth new)
  where
    nothing : (n : ℕ) → n + 0 ≡ n
    nothing n = omega arith
cleared-some depth (a ∷ bs) new old once same =
    let after = cleared (a ∷ bs) new in
    let rest = cleared bs new in
    let at : rest a ≡ old a = cleared-absent bs new a once.1 ∙ same.0 in
    let here : after a ≡ None = if-true (block_eq a a) None (rest a) (block-self a) in
    let put =
    some-put depth a after rest once.0 (λ b apart. if-false (block_eq a b) None (rest b) (block-other a b apart)) in
    let more = cleared-some depth bs new old once.2 same.1 in
    let next = some-option (old a) (filter_map old bs) in
    let p : one (is_some (rest a)) ≡ one (is_some (old a)) = ap (λ o. one (is_some o)) at in
    let q : one (is_some (after a)) ≡ 0 = ap (λ o. one (is_some o)) here in
    sum (some_of depth after) (some_of depth rest) (some_of depth new) (one (is_some (rest a)))
    (one (is_some (after a))) (one (is_some (old a))) (length (filter_map old bs))
    (length (filter_map old (a ∷ bs))) put more next p q
  where
    sum : (n r o p q g c m : ℕ) → n + p ≡ r + q → r + c ≡ o → m ≡ g + c → p ≡ g → q ≡ 0 → n + m ≡ o
    sum n r o p q g c m a b d e h = omega arith

-- a table's frame counts, and stands once where it counts once

without : Block → (Block → Option ℕ) → Block → Option ℕ
without a table b = if block_eq a b then None else table b

uses-without : (depth f : ℕ) (a : Block) (table : Block → Option ℕ)
    → IsInTree depth a
    → table a ≡ Some f
    → uses_of depth table f ≡ uses_of depth (without a table) f + 1
unfolding without
uses-without depth f a table inside h =
    let put =
    uses-put depth f a (without a table) table inside
    (λ b apart. if-false (block_eq a b) None (table b) (block-other a b apart)) in
    let here : without a table a ≡ None = if-true (block_eq a a) None (table a) (block-self a) in
    let p : one (is_frame f (table a)) ≡ 1 = ap (λ o. one (is_frame f o)) h ∙ ap one (eq-self f) in
    let q : one (is_frame f (without a table a)) ≡ 0 = ap (λ o. one (is_frame f o)) here in
    sum (uses_of depth (without a table) f) (uses_of depth table f) (one (is_frame f (table a)))
    (one (is_frame f (without a table a))) put p q
  where
    sum : (n o p q : ℕ) → n + p ≡ o + q → p ≡ 1 → q ≡ 0 → o ≡ n + 1
    sum n o p q a b c = omega arith

pub uses-some : (depth f : ℕ) (a : Block) (table : Block → Option ℕ)
    → IsInTree depth a
    → table a ≡ Some f
    → 1 ≤ uses_of depth table f
uses-some depth f a table inside h = let e = uses-without depth f a table inside h in omega arith

pub uses-once : (depth f : ℕ) (a b : Block) (table : Block → Option ℕ)
    → IsInTree depth a
    → IsInTree depth b
    → table a ≡ Some f
    → table b ≡ Some f
    → uses_of depth table f ≤ 1
    → b ≡ a
unfolding without
uses-once depth f a b table ia ib h k less = elim (both (block_eq a b)) [
  | inl e ↦ sym (block_eq-same a b e)
  | inr e ↦
      let x = uses-without depth f a table ia h in
      let y = uses-some depth f b (without a table) ib (if-false (block_eq a b) None (table b) e ∙ k) in
      absurd (omega arith)
]

-- the blocks of a change

less-scaled : (a b s : ℕ) → a * s < b * s → a < b
less-scaled a b s h = by_lt a b (λ l. l) (λ l. absurd (let e = mul-le-mul_right s l in omega arith))

in-tree : (depth first count : ℕ) (b : Block)
    → first + count ≤ block_pages (depth + 1)
    → 1 ≤ b.0
    → b.0 ≤ depth
    → first_page b < first + count
    → IsInTree depth b
in-tree depth first count b less low high below =
    let size : block_pages (depth + 1) ≡ block_pages (depth + 1 - b.0) * block_pages b.0 =
    size_split (depth + 1) (b.0) (omega arith) in
    let under : b.1 * block_pages b.0 < block_pages (depth + 1 - b.0) * block_pages b.0 = omega arith in
    record {
      some = low;
      top = omega arith;
      index = less-scaled (b.1) (block_pages (depth + 1 - b.0)) (block_pages b.0) under;
    }

-- a block of a change is one of the tree below its root, and meets the range
pub record IsMet (depth : ℕ) (e : Edit) (b : Block) : Type 0 where
  pub inside : IsInTree depth b
  pub below : b.0 ≤ depth

edit-blocks : (depth : ℕ) (e : Edit) → IsInRange depth e → All (IsMet depth e) (edit_blocks depth e)
unfolding blocks_on
edit-blocks depth keep r = All-nil (IsMet depth keep)
edit-blocks depth (put first zero entry) r = All-nil (IsMet depth (put first zero entry))
edit-blocks depth (put first (suc n) entry) r =
    All-weaker (Contains (blocks_on depth first (suc n))) (IsMet depth (put first (suc n) entry))
    (λ b k. let m = (blocks_meet depth first (suc n) b (omega arith)).0 k in
    record { inside = in-tree depth first (suc n) b r m.0 m.1 m.2; below = m.1 })
    (blocks_on depth first (suc n)) (All-contains_itself (blocks_on depth first (suc n)))

edit-ordered : (depth : ℕ) (e : Edit) → AllPairs ComesBefore (edit_blocks depth e)
edit-ordered depth keep = λ i j d a b. absurd (omega arith)
edit-ordered depth (put first count entry) = blocks_ordered depth first count

comes-other : (a b : Block) → ComesBefore a b → block_eq b a ≡ false
comes-other a b h = block-other b a (λ e. go a b h e)
  where
    go : (a b : Block) → ComesBefore a b → a ≡ b → ⊥
    go a b (inl h) e = let k : first_page a ≡ first_page b = ap first_page e in omega arith
    go a b (inr h) e = let k : a.0 ≡ b.0 = ap (λ (x : Block). x.0) e in let less = h.1 in omega arith

absent-of : (a : Block) (bs : List Block) → All (ComesBefore a) bs → IsAbsent a bs
absent-of a [] h = tt
absent-of a (b ∷ bs) h = (comes-other a b (h 0 a (omega arith)), absent-of a bs (λ k d less. h (suc k) d (omega arith)))

once-of : (depth : ℕ) (bs : List Block) → AllPairs ComesBefore bs → All (IsInTree depth) bs → AreOnce depth bs
once-of depth [] h k = tt
once-of depth (a ∷ bs) h k = (
  k 0 a (omega arith),
  absent-of a bs (λ i d less. h 0 (suc i) d (omega arith) (omega arith)),
  once-of depth bs (λ i j d x y. h (suc i) (suc j) d (omega arith) (omega arith))
      (λ i d less. k (suc i) d (omega arith)),
)

bare-of : (depth : ℕ) (old : Block → Option ℕ) (bs : List Block)
    → AreOnce depth bs
    → All (λ b. old b ≡ None) bs
    → AreBare depth old bs
bare-of depth old [] h k = tt
bare-of depth old (a ∷ bs) h k =
    (h.0, k 0 a (omega arith), h.1, bare-of depth old bs h.2 (λ i d less. k (suc i) d (omega arith)))

read-of : (new old : Block → Option ℕ) (bs : List Block) → All (λ b. new b ≡ old b) bs → AreRead new old bs
read-of new old [] h = tt
read-of new old (a ∷ bs) h = (h 0 a (omega arith), read-of new old bs (λ i d less. h (suc i) d (omega arith)))

-- the tests of needs and of freed tables

need-bare : (o : Option ℕ) (w : Bool)
    → elim (is_some o) [ true ↦ false | false ↦ not w ] ≡ true
    → (o ≡ None) × (w ≡ false)
need-bare None false h = (refl, refl)
need-bare None true h = cc
need-bare (Some f) w h = cc

freed-table : (o : Option ℕ) (w : Bool)
    → elim (is_some o) [ true ↦ w | false ↦ false ] ≡ true
    → ((f : ℕ) × (o ≡ Some f)) × (w ≡ true)
freed-table None w h = cc
freed-table (Some f) w h = ((f, refl), h)

absent-by : (b : Block) (bs : List Block) → All (λ a. block_eq a b ≡ false) bs → IsAbsent b bs
absent-by b [] h = tt
absent-by b (a ∷ bs) h = (h 0 b (omega arith), absent-by b bs (λ i d less. h (suc i) d (omega arith)))

passes : (o : Option ℕ) (w : Bool) (f : ℕ)
    → o ≡ Some f
    → w ≡ true
    → elim (is_some o) [ true ↦ w | false ↦ false ] ≡ true
passes (Some g) w f h k = k
passes None w f h k = cc

pub root-absent : (depth : ℕ) (bs : List Block) → All (λ b. b.0 ≤ depth) bs → IsAbsent (depth + 1, 0) bs
root-absent depth [] h = tt
root-absent depth (a ∷ bs) h = (
  block-other a (depth + 1, 0)
      (λ e. let k : depth + 1 ≡ a.0 = ap (λ (b : Block). b.0) e in
      let low : a.0 ≤ depth = h 0 a (omega arith) in
      omega arith),
  root-absent depth bs (λ i d less. h (suc i) d (omega arith)),
)

module _ (depth : ℕ) (t : Tree) (e : Edit) where
  pub need-all : All (λ b. (t.table b ≡ None) × (is_one_word (edited_map t.map e) b ≡ false)) (needs depth t e)
  unfolding needs
  need-all =
      All-weaker
      (λ b. elim (is_some (t.table b)) [ true ↦ false | false ↦ not (is_one_word (edited_map t.map e) b) ] ≡ true)
      (λ b. (t.table b ≡ None) × (is_one_word (edited_map t.map e) b ≡ false))
      (λ b h. need-bare (t.table b) (is_one_word (edited_map t.map e) b) h) (needs depth t e)
      (filter_passes
      (λ b. elim (is_some (t.table b)) [ true ↦ false | false ↦ not (is_one_word (edited_map t.map e) b) ])
      (edit_blocks depth e))

  freed-all : All (λ b. ((f : ℕ) × (t.table b ≡ Some f)) × (is_one_word (edited_map t.map e) b ≡ true))
      (freed depth t e)
  unfolding freed
  freed-all =
      All-weaker (λ b. elim (is_some (t.table b)) [ true ↦ is_one_word (edited_map t.map e) b | false ↦ false ] ≡ true)
      (λ b. ((f : ℕ) × (t.table b ≡ Some f)) × (is_one_word (edited_map t.map e) b ≡ true))
      (λ b h. freed-table (t.table b) (is_one_word (edited_map t.map e) b) h) (freed depth t e)
      (filter_passes (λ b. elim (is_some (t.table b)) [ true ↦ is_one_word (edited_map t.map e) b | false ↦ false ])
      (edit_blocks depth e))

  pub needs-once : IsInRange depth e → AreOnce depth (needs depth t e)
  unfolding needs
  needs-once r = once-of depth (needs depth t e)
      (AllPairs-filter ComesBefore
      (λ b. elim (is_some (t.table b)) [ true ↦ false | false ↦ not (is_one_word (edited_map t.map e) b) ])
      (edit_blocks depth e) (edit-ordered depth e))
      (All-weaker (IsMet depth e) (IsInTree depth) (λ b m. m.inside) (needs depth t e)
      (All-filter
      (λ b. elim (is_some (t.table b)) [ true ↦ false | false ↦ not (is_one_word (edited_map t.map e) b) ])
      (IsMet depth e) (edit_blocks depth e) (edit-blocks depth e r)))

  freed-once : IsInRange depth e → AreOnce depth (freed depth t e)
  unfolding freed
  freed-once r = once-of depth (freed depth t e)
      (AllPairs-filter ComesBefore
      (λ b. elim (is_some (t.table b)) [ true ↦ is_one_word (edited_map t.map e) b | false ↦ false ])
      (edit_blocks depth e) (edit-ordered depth e))
      (All-weaker (IsMet depth e) (IsInTree depth) (λ b m. m.inside) (freed depth t e)
      (All-filter (λ b. elim (is_some (t.table b)) [ true ↦ is_one_word (edited_map t.map e) b | false ↦ false ])
      (IsMet depth e) (edit_blocks depth e) (edit-blocks depth e r)))

  -- a block of the change with a table on which nothing is left loses it
  pub freed-has : (b : Block) (f : ℕ)
      → t.table b ≡ Some f
      → is_one_word (edited_map t.map e) b ≡ true
      → Contains (edit_blocks depth e) b
      → Contains (freed depth t e) b
  unfolding freed
  freed-has b f h now k =
      contains-filter (λ a. elim (is_some (t.table a)) [ true ↦ is_one_word (edited_map t.map e) a | false ↦ false ])
      (edit_blocks depth e) b k (passes (t.table b) (is_one_word (edited_map t.map e) b) f h now)

  pub needs-below : IsInRange depth e → All (λ b. b.0 ≤ depth) (needs depth t e)
  unfolding needs
  needs-below r =
      All-weaker (IsMet depth e) (λ b. b.0 ≤ depth) (λ b m. m.below) (needs depth t e)
      (All-filter
      (λ b. elim (is_some (t.table b)) [ true ↦ false | false ↦ not (is_one_word (edited_map t.map e) b) ])
      (IsMet depth e) (edit_blocks depth e) (edit-blocks depth e r))

  pub freed-below : IsInRange depth e → All (λ b. b.0 ≤ depth) (freed depth t e)
  unfolding freed
  freed-below r =
      All-weaker (IsMet depth e) (λ b. b.0 ≤ depth) (λ b m. m.below) (freed depth t e)
      (All-filter (λ b. elim (is_some (t.table b)) [ true ↦ is_one_word (edited_map t.map e) b | false ↦ false ])
      (IsMet depth e) (edit_blocks depth e) (edit-blocks depth e r))

  -- a block with a table gets none
  placed-stays : (fs : List ℕ) (b : Block) (f : ℕ)
      → t.table b ≡ Some f
      → placed (needs depth t e) fs t.table b ≡ t.table b
  placed-stays fs b f h =
      placed-absent (needs depth t e) fs t.table b
      (absent-by b (needs depth t e)
      (All-weaker (λ a. (t.table a ≡ None) × (is_one_word (edited_map t.map e) a ≡ false))
      (λ a. block_eq a b ≡ false)
      (λ a k. block-other a b (λ same. let bad : None ≡ Some f = sym k.0 ∙ sym (ap t.table same) ∙ h in cc))
      (needs depth t e) need-all))

  -- a change takes the frames of its needs, and gives back those of the tables that go
  pub edited-uses : (fs : List ℕ) (f : ℕ)
      → IsInRange depth e
      → need depth t e ≤ length fs
      → table_uses depth (edited depth t e fs) f + frame_count f (returned depth t e)
      ≡ table_uses depth t f + frame_count f (take (need depth t e) fs)
  unfolding edited returned table_uses uses_of
  edited-uses fs f r less =
      let placing =
      placed-uses depth f (needs depth t e) fs t.table
      (bare-of depth t.table (needs depth t e) (needs-once r)
      (All-weaker (λ b. (t.table b ≡ None) × (is_one_word (edited_map t.map e) b ≡ false))
      (λ b. t.table b ≡ None) (λ b h. h.0) (needs depth t e) need-all)) less in
      let clearing = cleared-uses depth f (freed depth t e) (placed (needs depth t e) fs t.table) t.table (freed-once r)
      (read-of (placed (needs depth t e) fs t.table) t.table (freed depth t e)
      (All-weaker (λ b. ((g : ℕ) × (t.table b ≡ Some g)) × (is_one_word (edited_map t.map e) b ≡ true))
      (λ b. placed (needs depth t e) fs t.table b ≡ t.table b) (λ b h. placed-stays fs b h.0.0 h.0.1)
      (freed depth t e) freed-all)) in
      clearing ∙ placing

  -- the number of tables grows by the needs, and falls by those that go
  pub edited-some : (fs : List ℕ)
      → IsInRange depth e
      → need depth t e ≤ length fs
      → some_of depth (edited depth t e fs).table + length (returned depth t e) ≡ some_of depth t.table + need depth t e
  unfolding edited returned
  edited-some fs r less =
      let placing =
      placed-some depth (needs depth t e) fs t.table
      (bare-of depth t.table (needs depth t e) (needs-once r)
      (All-weaker (λ b. (t.table b ≡ None) × (is_one_word (edited_map t.map e) b ≡ false))
      (λ b. t.table b ≡ None) (λ b h. h.0) (needs depth t e) need-all)) less in
      let clearing = cleared-some depth (freed depth t e) (placed (needs depth t e) fs t.table) t.table (freed-once r)
      (read-of (placed (needs depth t e) fs t.table) t.table (freed depth t e)
      (All-weaker (λ b. ((g : ℕ) × (t.table b ≡ Some g)) × (is_one_word (edited_map t.map e) b ≡ true))
      (λ b. placed (needs depth t e) fs t.table b ≡ t.table b) (λ b h. placed-stays fs b h.0.0 h.0.1)
      (freed depth t e) freed-all)) in
      clearing ∙ placing
