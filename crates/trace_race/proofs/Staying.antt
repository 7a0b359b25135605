-- A list without what comes first of each CPU.
use Rattle.std.proofs.Common.{◌≡◌, ◌≢◌, ℕ, ◌+◌, ◌==◌, zero, suc, arith, refl, ap, sym, ◌∙◌, subst, inl, inr, List, [], ◌∷◌, ◌++◌, length, map}
use Rattle.std.specs.Prelude.{Bool, true, false, ◌⊎◌, filter}
use Rattle.std.proofs.lemmas.List.{map-append}
use Rattle.std.proofs.lemmas.Bool.Decides.{nat_tests}
use Rattle.page_state.proofs.Common.{eq-same, eq-self}
use Rattle.reference_model.proofs.Ends.{filter-false, filter-true}
use Rattle.trace_race.specs.Ordered.{behind}
use Rattle.trace_race.proofs.Cutting.{Cut, cut, filter-nil, none-before, without}
use Rattle.trace_race.proofs.Skipping.{none_skipped, skip_one}

module _ {C P : Type 0} (cpu : C → ℕ) (uses : P → C → Bool) where
  abbrev pub by : ℕ → List C → List C
  by k cs = filter (λ c. cpu c == k) cs

  abbrev pub on : P → List C → List C
  on p cs = filter (uses p) cs

  abbrev pub count : List C → ℕ → ℕ
  count cs k = length (by k cs)

  -- what stays of a list
  pub record Stays (first after all : List C) : Type 0 where
    pub rest : List C
    pub on_is : (p : P) → on p rest ≡ on p after
    pub by_is : (k : ℕ) → by k rest ≡ by k after
    pub cpus_are : map cpu rest ≡ behind (count first) (map cpu all)

  none_of : (k : ℕ) (cs : List C) → by k cs ≡ [] → filter (λ x. x == k) (map cpu cs) ≡ []
  none_of k [] none = refl
  none_of k (c ∷ cs) none = let n = filter-nil (λ c. cpu c == k) c cs none in
      filter-false (λ x. x == k) (cpu c) (map cpu cs) n.0 ∙ none_of k cs n.1

  pub stays : (first after all : List C)
      → ((p : P) → on p all ≡ on p (first ++ after))
      → ((k : ℕ) → by k all ≡ by k (first ++ after))
      → Stays first after all
  stays [] after all parts cpus =
      record {
        rest = all;
        on_is = parts;
        by_is = cpus;
        cpus_are = sym (none_skipped (count []) (map cpu all) (λ k. refl));
      }
  stays (d ∷ first) after all parts cpus =
      let f : C → Bool = λ c. cpu c == cpu d in
      let at : Cut f all d =
      cut f all d (by (cpu d) (first ++ after))
      (cpus (cpu d) ∙ filter-true f d (first ++ after) (eq-self (cpu d))) in
      let on_at : (p : P) → on p (at.pre ++ (d ∷ at.post)) ≡ on p (d ∷ (first ++ after)) =
      λ p. ap (on p) (sym at.whole) ∙ parts p in
      let by_at : (k : ℕ) → by k (at.pre ++ (d ∷ at.post)) ≡ by k (d ∷ (first ++ after)) =
      λ k. ap (by k) (sym at.whole) ∙ cpus k in
      let none : (p : P) → uses p d ≡ true → on p at.pre ≡ [] =
      λ p u. none-before f (uses p) d at.pre at.post (first ++ after) (on_at p) at.none (eq-self (cpu d)) u in
      let more : Stays first after (at.pre ++ at.post) = stays first after (at.pre ++ at.post)
      (λ p. without (uses p) d at.pre at.post (first ++ after) (on_at p) (none p))
      (λ k. without (λ c. cpu c == k) d at.pre at.post (first ++ after) (by_at k)
      (λ e. subst (λ j. by j at.pre ≡ []) (eq-same (cpu d) k e) at.none)) in
      record {
        rest = more.rest;
        on_is = more.on_is;
        by_is = more.by_is;
        cpus_are =
            more.cpus_are
            ∙ ap (behind (count first)) (map-append cpu at.pre at.post)
            ∙ sym
            (skip_one (count first) (count (d ∷ first)) (cpu d) (map cpu at.pre) (map cpu at.post)
            (one_more d first) (others d first) (none_of (cpu d) at.pre at.none))
            ∙ ap (behind (count (d ∷ first))) (sym (ap (map cpu) at.whole ∙ map-append cpu at.pre (d ∷ at.post)));
      }
    where
      one_more : (d : C) (first : List C) → count (d ∷ first) (cpu d) ≡ count first (cpu d) + 1
      one_more d first = ap length (filter-true (λ c. cpu c == cpu d) d first (eq-self (cpu d))) ∙ omega arith

      others : (d : C) (first : List C) (j : ℕ) → (j == cpu d) ≡ false → count (d ∷ first) j ≡ count first j
      others d first j other = ap length (filter-false (λ c. cpu c == j) d first (turned (cpu d) j other))
        where
          turned : (m n : ℕ) → (n == m) ≡ false → (m == n) ≡ false
          turned m n h = grind (arith, nat_tests)
