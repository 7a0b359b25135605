-- Maps laid over others, range by range.
use Rattle.std.proofs.Common.{◌≡◌, ℕ, ◌+◌, ◌<◌, ◌≤◌, true, false, sym, ap, ◌∙◌, arith}
use Rattle.std.proofs.lemmas.Bool.Decides.{nat_tests}
use mathlib.Core.Path.{fun_ext}
use Rattle.page_state.specs.Map.{Map, is_within}
use Rattle.page_state.proofs.Cases.{by_lt}
use Rattle.page_state.proofs.Common.{if-true, if-false}
use Rattle.c_tables.specs.Laid.{laid}

within : (first count p : ℕ) → first ≤ p → p < first + count → is_within first count p ≡ true
within first count p a b = grind (arith, nat_tests)

before : (first count p : ℕ) → p < first → is_within first count p ≡ false
before first count p a = grind (arith, nat_tests)

past : (first count p : ℕ) → first + count ≤ p → is_within first count p ≡ false
past first count p a = grind (arith, nat_tests)

pub laid_none : (first : ℕ) (e old : Map) → laid first 0 e old ≡ old
laid_none first e old = fun_ext (λ p. by_lt p first
    (λ l. if-false (is_within first 0 p) (e p) (old p) (before first 0 p l))
    (λ l. if-false (is_within first 0 p) (e p) (old p) (past first 0 p (omega (arith, l)))))

module _ (e above old mid new : Map) (first a b : ℕ) (first_laid : mid ≡ laid first a e old)
    (then_laid : new ≡ laid (first + a) b above mid)
    (same : (p : ℕ) → first + a ≤ p → p < first + a + b → above p ≡ e p) where
  at_page : (p : ℕ) → new p ≡ laid first (a + b) e old p
  at_page p =
      let n : new p ≡ laid (first + a) b above mid p = ap (λ m. m p) then_laid in
      let m : mid p ≡ laid first a e old p = ap (λ m. m p) first_laid in
      by_lt p (first + a)
      (λ l. n ∙ if-false (is_within (first + a) b p) (above p) (mid p) (before (first + a) b p l) ∙ m ∙ by_lt p first
      (λ k. if-false (is_within first a p) (e p) (old p) (before first a p k)
      ∙ sym (if-false (is_within first (a + b) p) (e p) (old p) (before first (a + b) p k)))
      (λ k. if-true (is_within first a p) (e p) (old p) (within first a p k l)
      ∙ sym (if-true (is_within first (a + b) p) (e p) (old p) (within first (a + b) p k (omega (arith, l))))))
      (λ l. by_lt p (first + a + b)
      (λ k. n ∙ if-true (is_within (first + a) b p) (above p) (mid p) (within (first + a) b p l k) ∙ same p l k
      ∙ sym
      (if-true (is_within first (a + b) p) (e p) (old p)
      (within first (a + b) p (omega (arith, l)) (omega (arith, k)))))
      (λ k. n ∙ if-false (is_within (first + a) b p) (above p) (mid p) (past (first + a) b p k) ∙ m
      ∙ if-false (is_within first a p) (e p) (old p) (past first a p (omega (arith, l)))
      ∙ sym (if-false (is_within first (a + b) p) (e p) (old p) (past first (a + b) p (omega (arith, k))))))

  -- a map that is laid on
  pub laid_on : new ≡ laid first (a + b) e old
  laid_on = fun_ext at_page
