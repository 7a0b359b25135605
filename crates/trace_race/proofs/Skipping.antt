-- A list of CPUs without the first so many of each.
use Rattle.std.proofs.Common.{◌≡◌, ◌≢◌, ℕ, ◌+◌, ◌-◌, ◌==◌, ◌<◌, zero, suc, arith, refl, ap, sym, ◌∙◌, subst, inl, inr, List, [], ◌∷◌, ◌++◌, drop, get_or, length, map, nat_lt}
use Rattle.std.specs.Prelude.{Bool, true, false, ◌⊎◌, filter, if◌then◌else◌}
use Rattle.std.proofs.lemmas.Bool.Decides.{nat_tests}
use Rattle.std.proofs.lemmas.List.{append_assoc, drop_more}
use Rattle.page_state.proofs.Common.{both, eq-other, eq-same, eq-self}
use Rattle.trace_race.specs.Ordered.{behind, less_at}
use Rattle.trace_race.proofs.Cutting.{filter-nil}

pub less_here : (S : ℕ → ℕ) (c : ℕ) → less_at S c c ≡ S c - 1
less_here S c = rw (eq-self c) refl

pub less_there : (S : ℕ → ℕ) (c k : ℕ) → (k == c) ≡ false → less_at S c k ≡ S k
less_there S c k other = rw other refl

-- at the same numbers it is the same
less_same : (S T : ℕ → ℕ) (c : ℕ) → ((k : ℕ) → S k ≡ T k) → (k : ℕ) → less_at S c k ≡ less_at T c k
less_same S T c same k = elim (both (k == c)) [
  | inl t ↦ rw t (ap (λ n. n - 1) (same k))
  | inr t ↦ rw t (same k)
]

pub skips : (S : ℕ → ℕ) (c : ℕ) (cs : List ℕ) → nat_lt 0 (S c) ≡ true → behind S (c ∷ cs) ≡ behind (less_at S c) cs
skips S c cs some = rw some refl

pub keeps : (S : ℕ → ℕ) (c : ℕ) (cs : List ℕ) → nat_lt 0 (S c) ≡ false → behind S (c ∷ cs) ≡ c ∷ behind S cs
keeps S c cs none = rw none refl

pub behind_same : (S T : ℕ → ℕ) (cs : List ℕ) → ((k : ℕ) → S k ≡ T k) → behind S cs ≡ behind T cs
behind_same S T [] same = refl
behind_same S T (c ∷ cs) same = elim (both (nat_lt 0 (S c))) [
  | inl t ↦ skips S c cs t ∙ behind_same (less_at S c) (less_at T c) cs (less_same S T c same)
      ∙ sym (skips T c cs (subst (λ n. nat_lt 0 n ≡ true) (same c) t))
  | inr t ↦ keeps S c cs t ∙ ap (λ xs. c ∷ xs) (behind_same S T cs same)
      ∙ sym (keeps T c cs (subst (λ n. nat_lt 0 n ≡ false) (same c) t))
]

-- nothing is left out
pub none_skipped : (S : ℕ → ℕ) (cs : List ℕ) → ((k : ℕ) → S k ≡ 0) → behind S cs ≡ cs
none_skipped S [] none = refl
none_skipped S (c ∷ cs) none = keeps S c cs (ap (λ n. nat_lt 0 n) (none c)) ∙ ap (λ xs. c ∷ xs) (none_skipped S cs none)

some_left : (n m : ℕ) → n ≡ m + 1 → nat_lt 0 n ≡ true
some_left n m e = subst (λ k. nat_lt 0 k ≡ true) (sym e) (grind (arith, nat_tests))

-- one more of a CPU is left out: its first
pub skip_one : (S T : ℕ → ℕ) (k : ℕ) (xs ys : List ℕ)
    → T k ≡ S k + 1
    → ((j : ℕ) → (j == k) ≡ false → T j ≡ S j)
    → filter (λ x. x == k) xs ≡ []
    → behind T (xs ++ (k ∷ ys)) ≡ behind S (xs ++ ys)
skip_one S T k [] ys here others none =
    skips T k ys (some_left (T k) (S k) here) ∙ behind_same (less_at T k) S ys (λ j. elim (both (j == k)) [
      | inl t ↦ let same : j ≡ k = eq-same j k t in
          subst (λ i. less_at T k i ≡ S i) (sym same) (less_here T k ∙ (let e = here in omega (arith, e)))
      | inr t ↦ less_there T k j t ∙ others j t
    ])
skip_one S T k (x ∷ xs) ys here others none =
    let first = filter-nil (λ x. x == k) x xs none in
    let same : T x ≡ S x = others x first.0 in
    let away : (k == x) ≡ false =
    eq-other k x
    (λ e. let yes : (x == k) ≡ true = subst (λ i. (x == i) ≡ true) (sym e) (eq-self x) in
    let both : true ≡ false = sym yes ∙ first.0 in
    absurd cc) in
    elim (both (nat_lt 0 (S x))) [
      | inl t ↦
          skips T x (xs ++ (k ∷ ys)) (subst (λ n. nat_lt 0 n ≡ true) (sym same) t)
          ∙ skip_one (less_at S x) (less_at T x) k xs ys
          (less_there T x k away ∙ here ∙ ap (λ n. n + 1) (sym (less_there S x k away)))
          (λ j other. elim (both (j == x)) [
            | inl e ↦ let is : j ≡ x = eq-same j x e in
                subst (λ i. less_at T x i ≡ less_at S x i) (sym is)
                (less_here T x ∙ ap (λ n. n - 1) same ∙ sym (less_here S x))
            | inr e ↦ less_there T x j e ∙ others j other ∙ sym (less_there S x j e)
          ])
          first.1
          ∙ sym (skips S x (xs ++ ys) t)
      | inr t ↦
          keeps T x (xs ++ (k ∷ ys)) (subst (λ n. nat_lt 0 n ≡ false) (sym same) t)
          ∙ ap (λ zs. x ∷ zs) (skip_one S T k xs ys here others first.1)
          ∙ sym (keeps S x (xs ++ ys) t)
    ]

-- ---- one call after another

module _ {X : Type 0} (cpu : X → ℕ) (calls : List X) (i : ℕ) (d : X) (less : i < length calls) (S T : ℕ → ℕ) (b : Bool)
    (is : b ≡ nat_lt 0 (S (cpu (get_or calls i d))))
    (less_is : (k : ℕ) → T k ≡ (if b then less_at S (cpu (get_or calls i d)) k else S k)) (out all : List ℕ)
    (so : out ++ behind S (map cpu (drop i calls)) ≡ all) where
  first : map cpu (drop i calls) ≡ cpu (get_or calls i d) ∷ map cpu (drop (i + 1) calls)
  first = ap (map cpu) (drop_more calls i d less)

  -- it is left out
  pub left_out : b ≡ true → out ++ behind T (map cpu (drop (i + 1) calls)) ≡ all
  left_out t =
      ap (λ xs. out ++ xs)
      (behind_same T (less_at S (cpu (get_or calls i d))) (map cpu (drop (i + 1) calls))
      (λ k. less_is k ∙ ap (λ c. if c then less_at S (cpu (get_or calls i d)) k else S k) t)
      ∙ sym (skips S (cpu (get_or calls i d)) (map cpu (drop (i + 1) calls)) (sym is ∙ t)) ∙ ap (behind S) (sym first))
      ∙ so

  -- or it stays
  pub left_in : b ≡ false
      → (next : List ℕ)
      → next ≡ out ++ cpu (get_or calls i d) ∷ []
      → next ++ behind T (map cpu (drop (i + 1) calls)) ≡ all
  left_in t next grown =
      ap (λ xs. xs ++ behind T (map cpu (drop (i + 1) calls))) grown
      ∙ append_assoc out (cpu (get_or calls i d) ∷ []) (behind T (map cpu (drop (i + 1) calls)))
      ∙ ap (λ xs. out ++ xs)
      (ap (λ xs. cpu (get_or calls i d) ∷ xs)
      (behind_same T S (map cpu (drop (i + 1) calls))
      (λ k. less_is k ∙ ap (λ c. if c then less_at S (cpu (get_or calls i d)) k else S k) t))
      ∙ sym (keeps S (cpu (get_or calls i d)) (map cpu (drop (i + 1) calls)) (sym is ∙ t)) ∙ ap (behind S) (sym first))
      ∙ so
