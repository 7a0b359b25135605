-- Blocks counted level by level, and block by block.
use Rattle.std.proofs.Common.{◌≡◌, ℕ, zero, suc, ◌+◌, ◌-◌, ◌*◌, ◌≤◌, refl, sym, ap, ◌∙◌, arith, add-one, Bool, true, false, cond, List, ◌∷◌, ◌++◌, length, length-append, filter, if◌then◌else◌}
use Rattle.std.proofs.Math.Nat.{add-mul, mul_assoc}
use Rattle.std.proofs.lemmas.List.Elements.{filter-append}
use mathlib.Core.Path.{fun_ext}
use Rattle.page_state.specs.Geometries.{block_pages}
use Rattle.page_state.specs.Search.{count_below}
use Rattle.page_state.specs.Trees.{Block}
use Rattle.page_state.proofs.Sizes.{size_step}
use Rattle.reference_model.specs.model.Owner.{count_blocks}
use Rattle.table_tree.specs.AllBlocks.{gathered, blocks_in}
use Rattle.table_tree.proofs.Joined.{joined_start, joined_more, joined_none}

-- 1 where a test holds
abbrev one : Bool → ℕ
one b = if b then 1 else 0

-- sums

sum_last : (x p q r : ℕ) → r ≡ p + q → x + r ≡ p + (x + q)
sum_last x p q r e = omega (arith, e)

sum_four : (a b w v x y : ℕ) → x ≡ a + b → y ≡ w + v → x + y ≡ (a + w) + (b + v)
sum_four a b w v x y e k = omega (arith, e, k)

sum_here : (all old here x low old_top old_low new_top new_low : ℕ)
    → all ≡ old + (x + low)
    → old ≡ old_top + old_low
    → new_top ≡ x + old_top
    → new_low ≡ old_low + low
    → all ≡ new_top + new_low
sum_here all old here x low old_top old_low new_top new_low a b c d = omega (arith, a, b, c, d)

-- numbers counted in two parts
below_add : (a n : ℕ) (test : ℕ → Bool)
    → count_below (a + n) test ≡ count_below a test + count_below n (λ i. test (a + i))
below_add a zero test = let e : a + 0 ≡ a = omega arith in ap (λ m. count_below m test) e ∙ omega arith
below_add a (suc n) test =
    let e : a + suc n ≡ suc (a + n) = omega arith in
    ap (λ m. count_below m test) e
    ∙ sum_last (one (test (a + n))) (count_below a test) (count_below n (λ i. test (a + i)))
    (count_below (a + n) test) (below_add a n test)

place : (from n s i : ℕ) → from * (512 * s) + (n * (512 * s) + i) ≡ 512 * (from + n) * s + i
place from n s i =
    let a = add-mul from n (512 * s) in
    let b = mul_assoc (from + n) 512 s in
    let c : (from + n) * 512 ≡ 512 * (from + n) = omega arith in
    let d : (from + n) * 512 * s ≡ 512 * (from + n) * s = ap (λ k. k * s) c in
    omega (arith, a, b, d)

next_size : (n w : ℕ) → suc n * w ≡ n * w + w
next_size n w = let e : suc n ≡ n + 1 = omega arith in
    let a = add-mul n 1 w in
    let b : 1 * w ≡ w = omega arith in
    ap (λ k. k * w) e ∙ omega (arith, a, b)

-- the blocks of a level in one more block
level_more : (test : ℕ → Bool) (from n s w : ℕ)
    → w ≡ 512 * s
    → count_below (suc n * w) (λ i. test (from * w + i))
    ≡ count_below (n * w) (λ i. test (from * w + i)) + count_below (512 * s) (λ i. test (512 * (from + n) * s + i))
level_more test from n s w e =
    rw e (ap (λ m. count_below m (λ i. test (from * (512 * s) + i))) (next_size n (512 * s))
    ∙ below_add (n * (512 * s)) (512 * s) (λ i. test (from * (512 * s) + i))
    ∙ ap (λ g. count_below (n * (512 * s)) (λ i. test (from * (512 * s) + i)) + count_below (512 * s) g)
    (fun_ext (λ i. ap test (place from n s i))))

-- and that block itself
top_more : (test : ℕ → Bool) (from n w : ℕ)
    → w ≡ 1
    → count_below (suc n * w) (λ i. test (from * w + i))
    ≡ one (test (from + n)) + count_below (n * w) (λ i. test (from * w + i))
top_more test from n w e =
    let a : suc n * 1 ≡ suc n = omega arith in
    let b : n * 1 ≡ n = omega arith in
    let c : from * 1 + n ≡ from + n = omega arith in
    rw e
    (ap (λ m. count_below m (λ i. test (from * 1 + i))) a
    ∙ ap (λ k. one (test k) + count_below n (λ i. test (from * 1 + i))) c
    ∙ sym (ap (λ m. one (test (from + n)) + count_below m (λ i. test (from * 1 + i))) b))

module _ (p : Block → Bool) where
  -- how many blocks of depths 1 to `d` pass the test, in `n` blocks of depth `top` from `from` on
  abbrev within : ℕ → ℕ → ℕ → ℕ → ℕ
  within top zero from n = 0
  within top (suc d) from n =
      count_below (n * block_pages (top - suc d))
      (λ i. p (suc d, from * block_pages (top - suc d) + i)) + within top d from n

  within_none : (top d from : ℕ) → within top d from 0 ≡ 0
  within_none top zero from = refl
  within_none top (suc d) from =
      let e : 0 * block_pages (top - suc d) ≡ 0 = omega arith in
      ap (λ m. count_below m (λ i. p (suc d, from * block_pages (top - suc d) + i)) + within top d from 0) e
      ∙ omega (arith, within_none top d from)

  within_more : (top d from n : ℕ)
      → d ≤ top
      → within (suc top) d from (suc n) ≡ within (suc top) d from n + within top d (512 * (from + n)) 512
  within_more top zero from n h = refl
  within_more top (suc d) from n h =
      let s = block_pages (top - suc d) in
      let w = block_pages (suc top - suc d) in
      let e : suc top - suc d ≡ suc (top - suc d) = omega (arith, h) in
      let size : w ≡ 512 * s = ap block_pages e ∙ size_step (top - suc d) in
      sum_four (count_below (n * w) (λ i. p (suc d, from * w + i)))
      (count_below (512 * s) (λ i. p (suc d, 512 * (from + n) * s + i))) (within (suc top) d from n)
      (within top d (512 * (from + n)) 512) (count_below (suc n * w) (λ i. p (suc d, from * w + i)))
      (within (suc top) d from (suc n))
      (level_more (λ i. p (suc d, i)) from n s w size) (within_more top d from n (omega (arith, h)))

  first_counted : (b : Bool) (x : Block) (ys : List Block) → length (cond b (x ∷ ys) ys) ≡ one b + length ys
  first_counted true x ys = omega arith
  first_counted false x ys = omega arith

  -- blocks and all in them
  more : (d : ℕ)
      → ((from n : ℕ) → length (filter p (gathered (λ i. blocks_in d (from + i)) n)) ≡ within d d from n)
      → (from n : ℕ)
      → length (filter p (gathered (λ i. blocks_in (suc d) (from + i)) n)) ≡ within (suc d) (suc d) from n
  unfolding blocks_in
  more d h from zero =
      ap (λ xs. length (filter p xs)) (joined_start (λ i. blocks_in (suc d) (from + i)))
      ∙ sym (within_none (suc d) (suc d) from)
  more d h from (suc n) =
      let f : ℕ → List Block = λ i. blocks_in (suc d) (from + i) in
      let inner : List Block = gathered (λ i. blocks_in d (512 * (from + n) + i)) 512 in
      let w = block_pages (suc d - suc d) in
      let same : suc d - suc d ≡ 0 = omega arith in
      let split : gathered f (suc n) ≡ gathered f n ++ f n = ap (gathered f) (sym (add-one n)) ∙ joined_more f n in
      let parts =
      ap (λ xs. length (filter p xs)) split ∙ ap length (filter-append p (gathered f n) (f n))
      ∙ length-append (filter p (gathered f n)) (filter p (f n)) in
      let first : length (filter p (f n)) ≡ one (p (suc d, from + n)) + length (filter p inner) =
      first_counted (p (suc d, from + n)) (suc d, from + n) (filter p inner) in
      let low = h (512 * (from + n)) 512 in
      let all : length (filter p (gathered f (suc n))) ≡ length (filter p (gathered f n)) + (one (p (suc d, from + n)) + within d d (512 * (from + n)) 512) =
      parts
      ∙ ap (λ k. length (filter p (gathered f n)) + k) (first ∙ ap (λ k. one (p (suc d, from + n)) + k) low) in
      sum_here (length (filter p (gathered f (suc n)))) (length (filter p (gathered f n))) 0
      (one (p (suc d, from + n))) (within d d (512 * (from + n)) 512)
      (count_below (n * w) (λ i. p (suc d, from * w + i))) (within (suc d) d from n)
      (count_below (suc n * w) (λ i. p (suc d, from * w + i))) (within (suc d) d from (suc n))
      all (more d h from n) (top_more (λ i. p (suc d, i)) from n w (ap block_pages same))
      (within_more d d from n (omega arith))

  counted_in : (d from n : ℕ) → length (filter p (gathered (λ i. blocks_in d (from + i)) n)) ≡ within d d from n
  unfolding blocks_in
  counted_in zero from n =
      ap (λ xs. length (filter p xs)) (joined_none (λ i. blocks_in zero (from + i)) n (λ i less. refl))
  counted_in (suc d) from n = more d (counted_in d) from n

  within_all : (top d : ℕ) → within top d 0 1 ≡ count_blocks top d p
  within_all top zero = refl
  within_all top (suc d) =
      let w = block_pages (top - suc d) in
      let size : 1 * w ≡ w = omega arith in
      let at : (i : ℕ) → 0 * w + i ≡ i = λ i. omega arith in
      ap (λ m. count_below m (λ i. p (suc d, 0 * w + i)) + within top d 0 1) size
      ∙ ap (λ (g : ℕ → Bool). count_below w g + within top d 0 1) (fun_ext (λ i. ap (λ k. p (suc d, k)) (at i)))
      ∙ ap (λ k. count_below w (λ i. p (suc d, i)) + k) (within_all top d)

  -- as many blocks of a tree pass a test as are counted level by level
  pub blocks_counted : (d : ℕ) → length (filter p (blocks_in d 0)) ≡ count_blocks d d p
  blocks_counted d =
      let f : ℕ → List Block = λ i. blocks_in d (0 + i) in
      let alone : gathered f (0 + 1) ≡ blocks_in d 0 = joined_more f 0 ∙ ap (λ xs. xs ++ f 0) (joined_start f) in
      ap (λ xs. length (filter p xs)) (sym alone) ∙ counted_in d 0 1 ∙ within_all d d
