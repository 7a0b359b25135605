-- How many tables a tree has, by its list of tables: those in their place that have no later one at their block.
use Rattle.std.proofs.Common.{◌≡◌, ℕ, zero, suc, ◌+◌, ◌-◌, ◌<◌, ◌≤◌, Bool, true, false, List, [], ◌∷◌, drop, take, get_or, length, refl, sym, ap, subst, ◌∙◌, arith}
use Rattle.std.specs.Prelude.{◌&&◌, ◌==◌, not, nat_le, nat_lt, is_some, if◌then◌else◌}
use Rattle.std.proofs.lemmas.Bool.Decides.{nat_tests}
use Rattle.std.proofs.Math.Seq.{drop-cons}
use Rattle.std.proofs.lemmas.List.{drop_all, take_all, length-drop}
use Rattle.page_state.specs.Geometries.{block_pages}
use Rattle.page_state.specs.Search.{count_below}
use Rattle.page_state.specs.Blocks.{block_eq}
use Rattle.page_state.specs.Trees.{Block}
use Rattle.page_state.proofs.Cases.{by_eq, by_test}
use Rattle.page_state.proofs.Common.{eq-other, eq-self}
use Rattle.reference_model.specs.model.Owner.{count_blocks}
use Rattle.ghost_trees.specs.declared.tree.Table.{Table}
use Rattle.ghost_trees.specs.Trees.{table_of}
use Rattle.ghost_spec.specs.Found.{has_place}

-- one where the test holds
abbrev pub once : Bool → ℕ
once b = if b then 1 else 0

-- numbers

same_numbers : (n : ℕ) (f g : ℕ → Bool) → ((i : ℕ) → i < n → g i ≡ f i) → count_below n g ≡ count_below n f
same_numbers zero f g h = refl
same_numbers (suc n) f g h = let e = h n (omega arith) in
    let r = same_numbers n f g (λ i l. h i (omega arith)) in
    rw (e, r) refl

here_sum : (b y : Bool) (a c : ℕ) → y ≡ true → a ≡ c → once y + a ≡ once b + c + once (not b)
here_sum true y a c h e = rw h (omega arith)
here_sum false y a c h e = rw h (omega arith)

next_sum : (x a b c : ℕ) → a ≡ b + c → x + a ≡ x + b + c
next_sum x a b c e = omega arith

lt_self : (n : ℕ) → nat_lt n (suc n) ≡ true
lt_self n = grind (arith, nat_tests)

lt_next : (j n : ℕ) → (j ≡ n → ⊥) → nat_lt j (suc n) ≡ nat_lt j n
lt_next j n h =
    by_test (nat_lt j n)
    (λ t. let l : j < n = grind (arith, nat_tests) in
    let u : nat_lt j (suc n) ≡ true = grind (arith, nat_tests) in
    u ∙ sym t)
    (λ t. let l : n ≤ j = grind (arith, nat_tests) in
    let k : n < j = omega (arith, h) in
    let u : nat_lt j (suc n) ≡ false = grind (arith, nat_tests) in
    u ∙ sym t)

-- one number more passes
more_numbers : (n j : ℕ) (f g : ℕ → Bool)
    → ((i : ℕ) → (j ≡ i → ⊥) → g i ≡ f i)
    → g j ≡ true
    → count_below n g ≡ count_below n f + once (nat_lt j n && not (f j))
more_numbers zero j f g h t = let none : nat_lt j 0 ≡ false = grind (arith, nat_tests) in rw none refl
more_numbers (suc n) j f g h t = by_eq j n
    (λ e.
    let y : g n ≡ true = subst (λ k. g k ≡ true) e t in
    let r = same_numbers n f g (λ i l. h i (λ k. omega (arith, l, e, k))) in
    let last : once (nat_lt j (suc n) && not (f j)) ≡ once (not (f n)) = rw (e, lt_self n) refl in
    here_sum (f n) (g n) (count_below n g) (count_below n f) y r
    ∙ ap (λ x. once (f n) + count_below n f + x) (sym last))
    (λ e.
    let r = more_numbers n j f g h t in
    let last : once (nat_lt j (suc n) && not (f j)) ≡ once (nat_lt j n && not (f j)) =
    ap (λ b. once (b && not (f j))) (lt_next j n e) in
    let here = h n e in
    ap (λ b. once b + count_below n g) here
    ∙ next_sum (once (f n)) (count_below n g) (count_below n f) (once (nat_lt j n && not (f j))) r
    ∙ ap (λ x. once (f n) + count_below n f + x) (sym last))

-- blocks

other_depth : (e j k i : ℕ) → (e ≡ k → ⊥) → block_eq (e, j) (k, i) ≡ false
other_depth e j k i h = rw (eq-other e k h) refl

and-none : (b c : Bool) → c ≡ false → b && c ≡ false
and-none true c h = h
and-none false c h = refl

other_number : (e j k i : ℕ) → (j ≡ i → ⊥) → block_eq (e, j) (k, i) ≡ false
other_number e j k i h = and-none (e == k) (j == i) (eq-other j i h)

same_blocks : (top d : ℕ) (f g : Block → Bool)
    → ((k i : ℕ) → k ≤ d → g (k, i) ≡ f (k, i))
    → count_blocks top d g ≡ count_blocks top d f
same_blocks top zero f g h = refl
same_blocks top (suc d) f g h =
    let a =
    same_numbers (block_pages (top - suc d)) (λ i. f (suc d, i)) (λ i. g (suc d, i))
    (λ i l. h (suc d) i (omega arith)) in
    let r = same_blocks top d f g (λ k i l. h k i (omega arith)) in
    rw (a, r) refl

-- a block of depth `d` at most
abbrev place : ℕ → ℕ → ℕ → ℕ → Bool
place top d e j = nat_le 1 e && nat_le e d && nat_lt j (block_pages (top - e))

first_sum : (a b r s x y : ℕ) → a ≡ b + y → r ≡ s → x ≡ y → a + r ≡ b + s + x
first_sum a b r s x y p q z = omega arith

later_sum : (a b r s x y : ℕ) → a ≡ b → r ≡ s + y → x ≡ y → a + r ≡ b + s + x
later_sum a b r s x y p q z = omega arith

le_self : (n : ℕ) → nat_le (suc n) (suc n) ≡ true
le_self n = grind (arith, nat_tests)

le_some : (n : ℕ) → nat_le 1 (suc n) ≡ true
le_some n = grind (arith, nat_tests)

le_next : (e d : ℕ) → (e ≡ suc d → ⊥) → nat_le e (suc d) ≡ nat_le e d
le_next e d h =
    by_test (nat_le e d)
    (λ t. let l : e ≤ d = grind (arith, nat_tests) in
    let u : nat_le e (suc d) ≡ true = grind (arith, nat_tests) in
    u ∙ sym t)
    (λ t. let l : d < e = grind (arith, nat_tests) in
    let k : suc d < e = omega (arith, h) in
    let u : nat_le e (suc d) ≡ false = grind (arith, nat_tests) in
    u ∙ sym t)

no_place : (e j top : ℕ) → place top 0 e j ≡ false
no_place zero j top = refl
no_place (suc e) j top = let z : nat_le (suc e) 0 ≡ false = grind (arith, nat_tests) in rw (le_some e, z) refl

-- one block more passes
more_blocks : (top d e j : ℕ) (f g : Block → Bool)
    → ((b : Block) → block_eq (e, j) b ≡ false → g b ≡ f b)
    → g (e, j) ≡ true
    → count_blocks top d g ≡ count_blocks top d f + once (place top d e j && not (f (e, j)))
more_blocks top zero e j f g h t = rw (no_place e j top) refl
more_blocks top (suc d) e j f g h t =
    let n = block_pages (top - suc d) in
    by_eq e (suc d)
    (λ p.
    let a =
    more_numbers n j (λ i. f (suc d, i)) (λ i. g (suc d, i)) (λ i l. h (suc d, i) (other_number e j (suc d) i l))
    (subst (λ x. g (x, j) ≡ true) p t) in
    let r = same_blocks top d f g (λ k i l. h (k, i) (other_depth e j k i (λ z. omega (arith, l, p, z)))) in
    let x : once (place top (suc d) e j && not (f (e, j))) ≡ once (nat_lt j n && not (f (suc d, j))) =
    rw (p, le_some d, le_self d) refl in
    first_sum (count_below n (λ i. g (suc d, i))) (count_below n (λ i. f (suc d, i))) (count_blocks top d g)
    (count_blocks top d f) _ _ a r x)
    (λ p.
    let a =
    same_numbers n (λ i. f (suc d, i)) (λ i. g (suc d, i)) (λ i l. h (suc d, i) (other_depth e j (suc d) i p)) in
    let r = more_blocks top d e j f g h t in
    let x : once (place top (suc d) e j && not (f (e, j))) ≡ once (place top d e j && not (f (e, j))) =
    rw (le_next e d p) refl in
    later_sum (count_below n (λ i. g (suc d, i))) (count_below n (λ i. f (suc d, i))) (count_blocks top d g)
    (count_blocks top d f) _ _ a r x)

-- tables

-- how many blocks of trees of the depth have a table of the list
abbrev pub standing : ℕ → List Table → ℕ
standing depth ts = count_blocks (depth + 1) (depth + 1) (λ b. is_some (table_of ts b))

no_blocks : (top d : ℕ) → count_blocks top d (λ b. false) ≡ 0
no_blocks top zero = refl
no_blocks top (suc d) = rw (no_numbers (block_pages (top - suc d)), no_blocks top d) refl
  where
    no_numbers : (n : ℕ) → count_below n (λ i. false) ≡ 0
    no_numbers zero = refl
    no_numbers (suc n) = rw (no_numbers n) refl

pub none_standing : (depth : ℕ) → standing depth [] ≡ 0
none_standing depth = no_blocks (depth + 1) (depth + 1)

self_block : (e j : ℕ) → block_eq (e, j) (e, j) ≡ true
self_block e j = rw (eq-self e, eq-self j) refl

pub more_standing : (depth : ℕ) (t : Table) (ts : List Table)
    → standing depth (t ∷ ts)
    ≡ standing depth ts + once (has_place depth t.block && not (is_some (table_of ts t.block)))
more_standing depth t ts =
    more_blocks (depth + 1) (depth + 1) t.block.0 t.block.1 (λ b. is_some (table_of ts b))
    (λ b. is_some (table_of (t ∷ ts) b))
    (λ b n. rw n refl)
    (rw (self_block t.block.0 t.block.1) refl)

-- the table at a place of the list counts, or doesn't
counted_next : (depth i count next : ℕ) (ts : List Table) (d : Table)
    → i < length ts
    → count + standing depth (drop i ts) ≡ standing depth ts
    → next
    ≡ count + once
    (has_place depth (get_or ts i d).block && not (is_some (table_of (drop (i + 1) ts) (get_or ts i d).block)))
    → next + standing depth (drop (i + 1) ts) ≡ standing depth ts
counted_next depth i count next ts d h e n =
    let t = get_or ts i d in
    let one : suc i ≡ i + 1 = omega arith in
    let split : drop i ts ≡ t ∷ drop (i + 1) ts = drop-cons ts i d h ∙ ap (λ k. t ∷ drop k ts) one in
    let more : standing depth (drop i ts) ≡ standing depth (drop (i + 1) ts) + once (has_place depth t.block && not (is_some (table_of (drop (i + 1) ts) t.block))) =
    ap (standing depth) split ∙ more_standing depth t (drop (i + 1) ts) in
    sum_next (standing depth (drop i ts)) (standing depth (drop (i + 1) ts)) _ count next (standing depth ts) more n e
  where
    sum_next : (a b x count next all : ℕ) → a ≡ b + x → next ≡ count + x → count + a ≡ all → next + b ≡ all
    sum_next a b x count next all p q r = omega arith

-- the tables from a place on, as a slice
abbrev pub behind : List Table → ℕ → List Table
behind ts k = take (length ts - k) (drop k ts)

rest_all : (ts : List Table) (k : ℕ) → behind ts k ≡ drop k ts
rest_all ts k = take_all (length ts - k) (drop k ts) (let e = length-drop k ts in omega (arith, e))

pub counted_one : (depth i count next : ℕ) (ts : List Table) (d : Table)
    → i < length ts
    → count + standing depth (drop i ts) ≡ standing depth ts
    → has_place depth (get_or ts i d).block ≡ true
    → is_some (table_of (behind ts (i + 1)) (get_or ts i d).block) ≡ false
    → next ≡ count + 1
    → next + standing depth (drop (i + 1) ts) ≡ standing depth ts
counted_one depth i count next ts d h e p o n =
    counted_next depth i count next ts d h e (let q = rw (rest_all ts (i + 1)) at o in rw (p, q) n)

pub counted_again : (depth i count next : ℕ) (ts : List Table) (d : Table)
    → i < length ts
    → count + standing depth (drop i ts) ≡ standing depth ts
    → has_place depth (get_or ts i d).block ≡ true
    → is_some (table_of (behind ts (i + 1)) (get_or ts i d).block) ≡ true
    → next ≡ count
    → next + standing depth (drop (i + 1) ts) ≡ standing depth ts
counted_again depth i count next ts d h e p o n =
    counted_next depth i count next ts d h e
    (let q = rw (rest_all ts (i + 1)) at o in rw (p, q) (n ∙ sym (omega arith)))

pub counted_off : (depth i count next : ℕ) (ts : List Table) (d : Table)
    → i < length ts
    → count + standing depth (drop i ts) ≡ standing depth ts
    → has_place depth (get_or ts i d).block ≡ false
    → next ≡ count
    → next + standing depth (drop (i + 1) ts) ≡ standing depth ts
counted_off depth i count next ts d h e p n = counted_next depth i count next ts d h e (rw p (n ∙ sym (omega arith)))

pub all_counted : (depth i count : ℕ) (ts : List Table)
    → length ts ≤ i
    → count + standing depth (drop i ts) ≡ standing depth ts
    → count ≡ standing depth ts
all_counted depth i count ts h e = let none : standing depth (drop i ts) ≡ 0 =
    ap (standing depth) (drop_all i ts h) ∙ none_standing depth in
    omega (arith, none, e)
