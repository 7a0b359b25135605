-- Searches through numbers that a loop makes.
use Rattle.std.proofs.Common.{◌≡◌, ◌∙◌, ℕ, zero, suc, ◌+◌, ◌<◌, ◌≤◌, Bool, true, false, not, Option, Some, None, is_some, is_none, sym, ap, arith, refl}
use Rattle.page_state.specs.Search.{all_below, first_from, first_below}
use Rattle.page_state.proofs.Blocks.{all_from-each, all_from-by}
use Rattle.page_state.proofs.Cases.{by_eq, by_test}

none_is : {X : Type 0} (o : Option X) → is_none o ≡ not (is_some o)
none_is None = refl
none_is (Some x) = refl

-- no vCPU is loaded
pub none_loaded : (n : ℕ) (f : ℕ → Option ℕ)
    → ((i : ℕ) → i < n → is_some (f i) ≡ false)
    → false ≡ not (all_below n (λ i. is_none (f i)))
none_loaded n f h =
    sym (ap not (all_from-by 0 n (λ i. is_none (f i)) (λ i low high. none_is (f i) ∙ ap not (h i (omega arith)))))

-- one is
pub one_loaded : (n i : ℕ) (f : ℕ → Option ℕ)
    → i < n
    → is_some (f i) ≡ true
    → true ≡ not (all_below n (λ j. is_none (f j)))
one_loaded n i f less h = by_test (all_below n (λ j. is_none (f j)))
    (λ e. let t : is_none (f i) ≡ true = all_from-each 0 n (λ j. is_none (f j)) e i (omega arith) (omega arith) in
    absurd (let k = sym t ∙ none_is (f i) ∙ ap not h in cc))
    (λ e. sym (ap not e))

first_is : (from n k : ℕ) (test : ℕ → Bool)
    → from ≤ k
    → k < from + n
    → test k ≡ true
    → ((j : ℕ) → j < k → test j ≡ false)
    → first_from from n test ≡ Some k
first_is from zero k test low high t u = absurd (omega arith)
first_is from (suc n) k test low high t u = by_eq from k
    (λ e. let here : test from ≡ true = ap test e ∙ t in rw (here, first_from) (ap Some e))
    (λ d. let less : from < k = omega (arith, d) in
    let e = u from less in
    rw (e, first_from) (first_is (suc from) n k test less (omega arith) t u))

no_first : (from n : ℕ) (test : ℕ → Bool) → ((j : ℕ) → j < from + n → test j ≡ false) → first_from from n test ≡ None
no_first from zero test u = refl
no_first from (suc n) test u = let e = u from (omega arith) in
    rw (e, first_from) (no_first (suc from) n test (λ j less. u j (omega arith)))

-- the first number at which a test holds
pub first_found : (n k : ℕ) (test : ℕ → Bool)
    → k < n
    → test k ≡ true
    → ((j : ℕ) → j < k → test j ≡ false)
    → Some k ≡ first_below n test
first_found n k test high t u = sym (first_is 0 n k test (omega arith) (omega arith) t u)

-- and where there is none
pub none_found : (n : ℕ) (test : ℕ → Bool) → ((j : ℕ) → j < n → test j ≡ false) → None ≡ first_below n test
none_found n test u = sym (no_first 0 n test (λ j less. u j (omega arith)))
