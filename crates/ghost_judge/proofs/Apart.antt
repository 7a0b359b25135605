-- Where two coarsest lists of runs first differ, told run by run.
use Rattle.std.proofs.Common.{◌≡◌, ℕ, ◌+◌, ◌-◌, ◌<◌, ◌≤◌, min, Bool, true, false, ◌==◌, List, [], ◌∷◌, Option, Some, None, is_some, map, drop, length, get_or, refl, sym, ap, subst, ◌∙◌, arith}
use Rattle.std.proofs.lemmas.List.{drop_more, drop_all}
use Rattle.page_state.proofs.Cases.{by_lt, by_test}
use Rattle.page_state.proofs.Common.{eq-same, eq-self}
use Rattle.run_list.specs.declared.run.Run.{Run}
use Rattle.run_list.specs.Advance.{AdvanceLaws}
use Rattle.run_list.specs.Runs.{run_end, IsCoarsest, run_map, StartsFrom}
use Rattle.run_list.specs.View.{IsKept}
use Rattle.run_list.proofs.Maps.{run_in, run_high, none_low, starts_behind}
use Rattle.run_list.proofs.Once.{none-some, some-same, first-value, stops}
use Rattle.ghost_judge.specs.Apart.{IsFirstApart}
use Rattle.ghost_judge.specs.inner.Parted.{parted_at, IsFoundApart}

not-both : (b : Bool) → b ≡ true → b ≡ false → ⊥
not-both b e f = let g : true ≡ false = sym e ∙ f in cc

pub other_way : {X : Type 0} (f g : ℕ → X) (n : ℕ) → IsFirstApart f g n → IsFirstApart g f n
other_way f g n a = record { differ = λ e. a.differ (sym e); before = λ k l. sym (a.before k l) }

pub apart_at : {X : Type 0} (f g : ℕ → X) (n m : ℕ) → n ≡ m → IsFirstApart f g n → IsFirstApart f g m
apart_at f g n m e a = subst (λ k. IsFirstApart f g k) e a

is_none : (o : Option ℕ) → is_some o ≡ false → o ≡ None
is_none None h = refl
is_none (Some n) h = cc

told_head : {T X : Type 0} (f : T → X) (ts : List T) (i : ℕ) (x : T)
    → i < length ts
    → x ≡ get_or ts i x
    → map f (drop i ts) ≡ f x ∷ map f (drop (i + 1) ts)
told_head f ts i x l e = ap (map f) (drop_more ts i x l) ∙ ap (λ y. f y ∷ map f (drop (i + 1) ts)) (sym e)

told_end : {T X : Type 0} (f : T → X) (ts : List T) (i : ℕ) → length ts ≤ i → map f (drop i ts) ≡ []
told_end f ts i h = ap (map f) (drop_all i ts h)

-- what is left of two lists tells where they first differ
pub record IsLeft {V : Type 0} (advance : V → ℕ → V) (can : V → ℕ → Type 0) (us vs xs ys : List (Run V)) : Type 0 where
  pub one : IsKept advance can xs
  pub two : IsKept advance can ys
  pub alike : ((p : ℕ) → run_map advance xs p ≡ run_map advance ys p)
      → (p : ℕ)
      → run_map advance us p ≡ run_map advance vs p
  pub first : (p : ℕ)
      → IsFirstApart (run_map advance xs) (run_map advance ys) p
      → IsFirstApart (run_map advance us) (run_map advance vs) p

module _ {V : Type 0} (advance : V → ℕ → V) (can : V → ℕ → Type 0) (same : V → V → Bool)
    (laws : AdvanceLaws advance can same) where
  abbrev m : List (Run V) → ℕ → Option V
  m rs = run_map advance rs

  -- nothing stands before the first of two lists
  none_before : (q p : ℕ) (rs ss : List (Run V))
      → IsCoarsest advance rs
      → IsCoarsest advance ss
      → StartsFrom q rs
      → StartsFrom q ss
      → p < q
      → run_map advance rs p ≡ run_map advance ss p
  none_before q p rs ss a b s t h = none_low advance q p rs a s h ∙ sym (none_low advance q p ss b t h)

  starts : (r s : Run V) (rs ss : List (Run V))
      → IsCoarsest advance (r ∷ rs)
      → IsCoarsest advance (s ∷ ss)
      → r.pages.first.0 < s.pages.first.0
      → IsFirstApart (run_map advance (r ∷ rs)) (run_map advance (s ∷ ss)) r.pages.first.0
  starts r s rs ss a b h = record {
    differ =
        λ e. none-some r.value (run_map advance (s ∷ ss) r.pages.first.0)
        (none_low advance s.pages.first.0 r.pages.first.0 (s ∷ ss) b (omega arith) h)
        (sym e ∙ first-value advance can same laws r rs a.0);
    before = λ k l. none_before r.pages.first.0 k (r ∷ rs) (s ∷ ss) a b (omega arith) (omega arith) l;
  }

  values : (r s : Run V) (rs ss : List (Run V))
      → IsCoarsest advance (r ∷ rs)
      → IsCoarsest advance (s ∷ ss)
      → r.pages.first.0 ≡ s.pages.first.0
      → same r.value s.value ≡ false
      → IsFirstApart (run_map advance (r ∷ rs)) (run_map advance (s ∷ ss)) r.pages.first.0
  values r s rs ss a b e f = record {
    differ = λ d.
        let t : r.value ≡ s.value =
        some-same r.value s.value
        (sym (first-value advance can same laws r rs a.0) ∙ d ∙ ap (run_map advance (s ∷ ss)) e
        ∙ first-value advance can same laws s ss b.0) in
        not-both (same r.value s.value) (subst (λ v. same r.value v ≡ true) t (laws.is_own r.value)) f;
    before = λ k l. none_before r.pages.first.0 k (r ∷ rs) (s ∷ ss) a b (omega arith) (omega arith) l;
  }

  on_both : (r s : Run V) (rs ss : List (Run V)) (p : ℕ)
      → r.pages.first.0 ≡ s.pages.first.0
      → r.value ≡ s.value
      → r.pages.first.0 ≤ p
      → p < run_end r
      → p < run_end s
      → run_map advance (r ∷ rs) p ≡ run_map advance (s ∷ ss) p
  on_both r s rs ss p e f h k l =
      let x : p - r.pages.first.0 ≡ p - s.pages.first.0 = omega arith in
      run_in advance r rs p h k ∙ ap Some (ap (λ n. advance r.value n) x ∙ ap (λ v. advance v (p - s.pages.first.0)) f)
      ∙ sym (run_in advance s ss p (omega arith) l)

  shorter : (r s : Run V) (rs ss : List (Run V))
      → IsCoarsest advance (r ∷ rs)
      → IsCoarsest advance (s ∷ ss)
      → r.pages.first.0 ≡ s.pages.first.0
      → r.value ≡ s.value
      → r.pages.count < s.pages.count
      → IsFirstApart (run_map advance (r ∷ rs)) (run_map advance (s ∷ ss)) (run_end r)
  shorter r s rs ss a b e f h = record {
    differ = λ d.
        let k : run_end r - s.pages.first.0 ≡ r.pages.count = omega arith in
        let there : run_map advance (s ∷ ss) (run_end r) ≡ Some (advance r.value r.pages.count) =
        run_in advance s ss (run_end r) (omega arith) (omega arith)
        ∙ ap Some (ap (advance s.value) k ∙ ap (λ v. advance v r.pages.count) (sym f)) in
        stops advance can same laws r rs a.1 a.2 (sym (run_high advance r rs (run_end r) (omega arith)) ∙ d ∙ there);
    before = λ k l. by_lt k r.pages.first.0
        (λ x. none_before r.pages.first.0 k (r ∷ rs) (s ∷ ss) a b (omega arith) (omega arith) x)
        (λ x. on_both r s rs ss k e f x l (omega arith));
  }

  longest : (r s : Run V) (rs ss : List (Run V))
      → IsCoarsest advance (r ∷ rs)
      → IsCoarsest advance (s ∷ ss)
      → r.pages.first.0 ≡ s.pages.first.0
      → r.value ≡ s.value
      → (r.pages.count ≡ s.pages.count → ⊥)
      → IsFirstApart (run_map advance (r ∷ rs)) (run_map advance (s ∷ ss))
      (r.pages.first.0 + min r.pages.count s.pages.count)
  longest r s rs ss a b e f h = by_lt r.pages.count s.pages.count
      (λ l. apart_at (run_map advance (r ∷ rs)) (run_map advance (s ∷ ss)) (run_end r)
      (r.pages.first.0 + min r.pages.count s.pages.count) (omega arith) (shorter r s rs ss a b e f l))
      (λ l. let k : s.pages.count < r.pages.count = omega arith in
      apart_at (run_map advance (r ∷ rs)) (run_map advance (s ∷ ss)) (run_end s)
      (r.pages.first.0 + min r.pages.count s.pages.count) (omega arith)
      (other_way (run_map advance (s ∷ ss)) (run_map advance (r ∷ rs)) (run_end s)
      (shorter s r ss rs b a (sym e) (sym f) k)))

  earliest : (r s : Run V) (rs ss : List (Run V))
      → IsCoarsest advance (r ∷ rs)
      → IsCoarsest advance (s ∷ ss)
      → (r.pages.first.0 ≡ s.pages.first.0 → ⊥)
      → IsFirstApart (run_map advance (r ∷ rs)) (run_map advance (s ∷ ss)) (min r.pages.first.0 s.pages.first.0)
  earliest r s rs ss a b h = by_lt r.pages.first.0 s.pages.first.0
      (λ l. apart_at (run_map advance (r ∷ rs)) (run_map advance (s ∷ ss)) r.pages.first.0
      (min r.pages.first.0 s.pages.first.0) (omega arith) (starts r s rs ss a b l))
      (λ l. let k : s.pages.first.0 < r.pages.first.0 = omega arith in
      apart_at (run_map advance (r ∷ rs)) (run_map advance (s ∷ ss)) s.pages.first.0
      (min r.pages.first.0 s.pages.first.0) (omega arith)
      (other_way (run_map advance (s ∷ ss)) (run_map advance (r ∷ rs)) s.pages.first.0
      (starts s r ss rs b a k)))

  eq-not : (x y : ℕ) → (x == y) ≡ false → x ≡ y → ⊥
  eq-not x y f e = not-both (x == y) (subst (λ n. (x == n) ≡ true) e (eq-self x)) f

  -- two runs that part
  parted_first : (r s : Run V) (rs ss : List (Run V)) (p : ℕ)
      → IsCoarsest advance (r ∷ rs)
      → IsCoarsest advance (s ∷ ss)
      → parted_at same r s ≡ Some p
      → IsFirstApart (run_map advance (r ∷ rs)) (run_map advance (s ∷ ss)) p
  parted_first r s rs ss p a b h = by_test (r.pages.first.0 == s.pages.first.0)
      (λ e. by_test (same r.value s.value)
      (λ f. by_test (r.pages.count == s.pages.count)
      (λ g. let no_page : None ≡ Some p = rw (e, f, g) at h in absurd (cc))
      (λ g. let x : Some (r.pages.first.0 + min r.pages.count s.pages.count) ≡ Some p = rw (e, f, g) at h in
      apart_at (run_map advance (r ∷ rs)) (run_map advance (s ∷ ss))
      (r.pages.first.0 + min r.pages.count s.pages.count) p
      (some-same (r.pages.first.0 + min r.pages.count s.pages.count) p x)
      (longest r s rs ss a b (eq-same r.pages.first.0 s.pages.first.0 e) (laws.is_equal r.value s.value f)
      (eq-not r.pages.count s.pages.count g))))
      (λ f. let x : Some r.pages.first.0 ≡ Some p = rw (e, f) at h in
      apart_at (run_map advance (r ∷ rs)) (run_map advance (s ∷ ss)) r.pages.first.0 p (some-same r.pages.first.0 p x)
      (values r s rs ss a b (eq-same r.pages.first.0 s.pages.first.0 e) f)))
      (λ e. let x : Some (min r.pages.first.0 s.pages.first.0) ≡ Some p = rw e at h in
      apart_at (run_map advance (r ∷ rs)) (run_map advance (s ∷ ss)) (min r.pages.first.0 s.pages.first.0) p
      (some-same (min r.pages.first.0 s.pages.first.0) p x)
      (earliest r s rs ss a b (eq-not r.pages.first.0 s.pages.first.0 e)))

  -- two runs that don't
  record IsOneRun (r s : Run V) : Type 0 where
    first : r.pages.first.0 ≡ s.pages.first.0
    value : r.value ≡ s.value
    count : r.pages.count ≡ s.pages.count

  one_run : (r s : Run V) → parted_at same r s ≡ None → IsOneRun r s
  one_run r s h = by_test (r.pages.first.0 == s.pages.first.0)
      (λ e. by_test (same r.value s.value)
      (λ f. by_test (r.pages.count == s.pages.count)
      (λ g. record {
        first = eq-same r.pages.first.0 s.pages.first.0 e;
        value = laws.is_equal r.value s.value f;
        count = eq-same r.pages.count s.pages.count g;
      })
      (λ g. let some_page : Some (r.pages.first.0 + min r.pages.count s.pages.count) ≡ None = rw (e, f, g) at h in
      absurd (cc)))
      (λ f. let some_page : Some r.pages.first.0 ≡ None = rw (e, f) at h in absurd (cc)))
      (λ e. let some_page : Some (min r.pages.first.0 s.pages.first.0) ≡ None = rw e at h in absurd (cc))

  same_behind : (r s : Run V) (rs ss : List (Run V))
      → IsCoarsest advance (r ∷ rs)
      → IsCoarsest advance (s ∷ ss)
      → IsOneRun r s
      → (p : ℕ)
      → (run_end r ≤ p → run_map advance rs p ≡ run_map advance ss p)
      → run_map advance (r ∷ rs) p ≡ run_map advance (s ∷ ss) p
  same_behind r s rs ss a b o p h = by_lt p (run_end r)
      (λ l. by_lt p r.pages.first.0
      (λ k. none_before r.pages.first.0 p (r ∷ rs) (s ∷ ss) a b (omega arith) (omega (arith, o.first)) k)
      (λ k. on_both r s rs ss p o.first o.value k l (omega (arith, o.first, o.count))))
      (λ l. run_high advance r rs p l ∙ h l ∙ sym (run_high advance s ss p (omega (arith, o.first, o.count))))

  apart_behind : (r s : Run V) (rs ss : List (Run V))
      → IsCoarsest advance (r ∷ rs)
      → IsCoarsest advance (s ∷ ss)
      → IsOneRun r s
      → (p : ℕ)
      → IsFirstApart (run_map advance rs) (run_map advance ss) p
      → IsFirstApart (run_map advance (r ∷ rs)) (run_map advance (s ∷ ss)) p
  apart_behind r s rs ss a b o p x =
      let far : run_end r ≤ p = by_lt p (run_end r)
      (λ l. absurd
      (x.differ
      (none_low advance (run_end r) p rs a.2 (starts_behind advance r rs a.1) l
      ∙ sym
      (none_low advance (run_end s) p ss b.2 (starts_behind advance s ss b.1)
      (omega (arith, o.first, o.count))))))
      (λ l. l) in
      record {
        differ =
            λ e. x.differ
            (sym (run_high advance r rs p far) ∙ e ∙ run_high advance s ss p (omega (arith, o.first, o.count)));
        before = λ k l. same_behind r s rs ss a b o k (λ y. x.before k l);
      }

  pub left_all : (us vs : List (Run V)) → IsKept advance can us → IsKept advance can vs → IsLeft advance can us vs us vs
  left_all us vs a b = record { one = a; two = b; alike = λ h. h; first = λ p h. h }

  pub left_more : (us vs xs ys : List (Run V)) (r s : Run V)
      → parted_at same r s ≡ None
      → IsLeft advance can us vs (r ∷ xs) (s ∷ ys)
      → IsLeft advance can us vs xs ys
  left_more us vs xs ys r s e l =
      let o = one_run r s e in
      record {
        one = record { coarsest = l.one.coarsest.2; in_reach = l.one.in_reach.1 };
        two = record { coarsest = l.two.coarsest.2; in_reach = l.two.in_reach.1 };
        alike = λ h. l.alike (λ p. same_behind r s xs ys l.one.coarsest l.two.coarsest o p (λ y. h p));
        first = λ p h. l.first p (apart_behind r s xs ys l.one.coarsest l.two.coarsest o p h);
      }

  pub left_parted : (us vs xs ys : List (Run V)) (r s : Run V) (o : Option ℕ) (p : ℕ)
      → o ≡ parted_at same r s
      → o ≡ Some p
      → IsLeft advance can us vs (r ∷ xs) (s ∷ ys)
      → IsFirstApart (run_map advance us) (run_map advance vs) p
  left_parted us vs xs ys r s o p e f l = l.first p (parted_first r s xs ys p l.one.coarsest l.two.coarsest (sym e ∙ f))

  alone : (s : Run V) (ss : List (Run V))
      → IsCoarsest advance (s ∷ ss)
      → IsFirstApart (run_map advance []) (run_map advance (s ∷ ss)) s.pages.first.0
  alone s ss b = record {
    differ = λ e. none-some s.value None refl (e ∙ first-value advance can same laws s ss b.0);
    before = λ k l. sym (none_low advance s.pages.first.0 k (s ∷ ss) b (omega arith) l);
  }

  pub left_one : (us vs xs : List (Run V)) (r : Run V)
      → IsLeft advance can us vs (r ∷ xs) []
      → IsFirstApart (run_map advance us) (run_map advance vs) r.pages.first.0
  left_one us vs xs r l =
      l.first r.pages.first.0
      (other_way (run_map advance []) (run_map advance (r ∷ xs)) r.pages.first.0 (alone r xs l.one.coarsest))

  pub left_two : (us vs ys : List (Run V)) (s : Run V)
      → IsLeft advance can us vs [] (s ∷ ys)
      → IsFirstApart (run_map advance us) (run_map advance vs) s.pages.first.0
  left_two us vs ys s l = l.first s.pages.first.0 (alone s ys l.two.coarsest)

  pub left_none : (us vs : List (Run V))
      → IsLeft advance can us vs [] []
      → (p : ℕ)
      → run_map advance us p ≡ run_map advance vs p
  left_none us vs l = l.alike (λ p. refl)

  -- the same over a list of what is told as runs
  module _ {T : Type 0} (f : T → Run V) (ts ws : List T) (i : ℕ) where
    left_here : (x y : T) (r s : Run V)
        → i < length ts
        → i < length ws
        → x ≡ get_or ts i x
        → y ≡ get_or ws i y
        → r ≡ f x
        → s ≡ f y
        → IsLeft advance can (map f ts) (map f ws) (map f (drop i ts)) (map f (drop i ws))
        → IsLeft advance can (map f ts) (map f ws) (r ∷ map f (drop (i + 1) ts)) (s ∷ map f (drop (i + 1) ws))
    left_here x y r s h k e g a b l =
        rw (a, b)
        (subst (λ ys. IsLeft advance can (map f ts) (map f ws) (f x ∷ map f (drop (i + 1) ts)) ys)
        (told_head f ws i y k g)
        (subst (λ xs. IsLeft advance can (map f ts) (map f ws) xs (map f (drop i ws)))
        (told_head f ts i x h e) l))

    pub left_step : (x y : T) (r s : Run V) (o : Option ℕ)
        → i < length ts
        → i < length ws
        → x ≡ get_or ts i x
        → y ≡ get_or ws i y
        → r ≡ f x
        → s ≡ f y
        → o ≡ parted_at same r s
        → is_some o ≡ false
        → IsLeft advance can (map f ts) (map f ws) (map f (drop i ts)) (map f (drop i ws))
        → IsLeft advance can (map f ts) (map f ws) (map f (drop (i + 1) ts)) (map f (drop (i + 1) ws))
    left_step x y r s o h k e g a b p n l =
        left_more (map f ts) (map f ws) (map f (drop (i + 1) ts)) (map f (drop (i + 1) ws)) r s (sym p ∙ is_none o n)
        (left_here x y r s h k e g a b l)

    pub left_found : (x y : T) (r s : Run V) (o : Option ℕ)
        → i < length ts
        → i < length ws
        → x ≡ get_or ts i x
        → y ≡ get_or ws i y
        → r ≡ f x
        → s ≡ f y
        → o ≡ parted_at same r s
        → is_some o ≡ true
        → IsLeft advance can (map f ts) (map f ws) (map f (drop i ts)) (map f (drop i ws))
        → IsFoundApart (run_map advance (map f ts)) (run_map advance (map f ws)) o
    left_found x y r s None h k e g a b p n l = absurd (cc)
    left_found x y r s (Some q) h k e g a b p n l =
        left_parted (map f ts) (map f ws) (map f (drop (i + 1) ts)) (map f (drop (i + 1) ws)) r s (Some q) q p refl
        (left_here x y r s h k e g a b l)

    pub left_only_one : (x : T) (r : Run V)
        → i < length ts
        → length ws ≤ i
        → x ≡ get_or ts i x
        → r ≡ f x
        → IsLeft advance can (map f ts) (map f ws) (map f (drop i ts)) (map f (drop i ws))
        → IsFirstApart (run_map advance (map f ts)) (run_map advance (map f ws)) r.pages.first.0
    left_only_one x r h k e a l =
        rw a
        (left_one (map f ts) (map f ws) (map f (drop (i + 1) ts)) (f x)
        (subst (λ ys. IsLeft advance can (map f ts) (map f ws) (f x ∷ map f (drop (i + 1) ts)) ys)
        (told_end f ws i k)
        (subst (λ xs. IsLeft advance can (map f ts) (map f ws) xs (map f (drop i ws)))
        (told_head f ts i x h e) l)))

    pub left_only_two : (y : T) (s : Run V)
        → length ts ≤ i
        → i < length ws
        → y ≡ get_or ws i y
        → s ≡ f y
        → IsLeft advance can (map f ts) (map f ws) (map f (drop i ts)) (map f (drop i ws))
        → IsFirstApart (run_map advance (map f ts)) (run_map advance (map f ws)) s.pages.first.0
    left_only_two y s h k e b l =
        rw b
        (left_two (map f ts) (map f ws) (map f (drop (i + 1) ws)) (f y)
        (subst (λ ys. IsLeft advance can (map f ts) (map f ws) [] ys) (told_head f ws i y k e)
        (subst (λ xs. IsLeft advance can (map f ts) (map f ws) xs (map f (drop i ws)))
        (told_end f ts i h) l)))

    pub left_no_one : length ts ≤ i
        → length ws ≤ i
        → IsLeft advance can (map f ts) (map f ws) (map f (drop i ts)) (map f (drop i ws))
        → (p : ℕ)
        → run_map advance (map f ts) p ≡ run_map advance (map f ws) p
    left_no_one h k l =
        left_none (map f ts) (map f ws)
        (subst (λ ys. IsLeft advance can (map f ts) (map f ws) [] ys) (told_end f ws i k)
        (subst (λ xs. IsLeft advance can (map f ts) (map f ws) xs (map f (drop i ws))) (told_end f ts i h) l))
