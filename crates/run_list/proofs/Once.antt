-- A map has one coarsest list of runs.
use Rattle.std.proofs.Common.{◌≡◌, ℕ, ◌-◌, ◌<◌, ◌≤◌, Bool, List, [], ◌∷◌, Option, Some, None, refl, sym, ap, ◌∙◌, arith}
use Rattle.page_state.proofs.Cases.{by_lt}
use Rattle.run_list.specs.declared.run.Run.{Run}
use Rattle.run_list.specs.Advance.{AdvanceLaws}
use Rattle.run_list.specs.Runs.{run_end, PrecedesFirst, IsCoarsest, run_map}
use Rattle.run_list.proofs.Maps.{run_in, run_high, none_low, starts_behind}

pub none-some : {V : Type 0} (v : V) (o : Option V) → o ≡ None → o ≡ Some v → ⊥
none-some v o e f = let g : None ≡ Some v = sym e ∙ f in cc

pub some-same : {V : Type 0} (v w : V) → Some v ≡ Some w → v ≡ w
some-same v w e = cc

run-same : {V : Type 0} (r s : Run V)
    → r.pages.first.0 ≡ s.pages.first.0
    → r.pages.count ≡ s.pages.count
    → r.value ≡ s.value
    → r ≡ s
run-same {V} r s a b c =
    go
    (λ first
    count value. record { pages = record { first = record { 0 = first }; count = count }; value = value }) a b c
  where
    go : (f : ℕ → ℕ → V → Run V)
        → r.pages.first.0 ≡ s.pages.first.0
        → r.pages.count ≡ s.pages.count
        → r.value ≡ s.value
        → f r.pages.first.0 r.pages.count r.value ≡ f s.pages.first.0 s.pages.count s.value
    go f a b c = cc

module _ {V : Type 0} (advance : V → ℕ → V) (can : V → ℕ → Type 0) (same : V → V → Bool)
    (laws : AdvanceLaws advance can same) where
  abbrev SameMap : List (Run V) → List (Run V) → Type 0
  SameMap rs ss = (p : ℕ) → run_map advance rs p ≡ run_map advance ss p

  pub first-value : (r : Run V) (rs : List (Run V))
      → 0 < r.pages.count
      → run_map advance (r ∷ rs) r.pages.first.0 ≡ Some r.value
  first-value r rs h =
      let k : r.pages.first.0 - r.pages.first.0 ≡ 0 = omega arith in
      run_in advance r rs r.pages.first.0 (omega arith) (omega arith)
      ∙ ap Some (ap (advance r.value) k ∙ laws.none r.value)

  -- behind a run of a coarsest list the map doesn't go on as the run would
  pub stops : (r : Run V) (rs : List (Run V))
      → PrecedesFirst advance r rs
      → IsCoarsest advance rs
      → run_map advance rs (run_end r) ≡ Some (advance r.value r.pages.count)
      → ⊥
  stops r [] p c h = none-some (advance r.value r.pages.count) None refl h
  stops r (n ∷ rs) p c h =
      by_lt (run_end r) n.pages.first.0
      (λ l. none-some (advance r.value r.pages.count) (run_map advance (n ∷ rs) (run_end r))
      (none_low advance n.pages.first.0 (run_end r) (n ∷ rs) c (omega arith) l) h)
      (λ g.
      let e : run_end r ≡ n.pages.first.0 = omega (arith, p.before) in
      let here : run_map advance (n ∷ rs) (run_end r) ≡ Some n.value =
      ap (run_map advance (n ∷ rs)) e ∙ first-value n rs c.0 in
      p.apart e (some-same (advance r.value r.pages.count) n.value (sym h ∙ here)))

  first-below : (r s : Run V) (rs ss : List (Run V))
      → IsCoarsest advance (r ∷ rs)
      → IsCoarsest advance (s ∷ ss)
      → SameMap (r ∷ rs) (s ∷ ss)
      → s.pages.first.0 ≤ r.pages.first.0
  first-below r s rs ss a b m =
      by_lt r.pages.first.0 s.pages.first.0
      (λ l. absurd
      (none-some r.value (run_map advance (s ∷ ss) r.pages.first.0)
      (none_low advance s.pages.first.0 r.pages.first.0 (s ∷ ss) b (omega arith) l)
      (sym (m r.pages.first.0) ∙ first-value r rs a.0)))
      (λ g. g)

  count-below : (r s : Run V) (rs ss : List (Run V))
      → IsCoarsest advance (r ∷ rs)
      → r.pages.first.0 ≡ s.pages.first.0
      → r.value ≡ s.value
      → SameMap (r ∷ rs) (s ∷ ss)
      → s.pages.count ≤ r.pages.count
  count-below r s rs ss a f t m =
      by_lt r.pages.count s.pages.count
      (λ l.
      let k : run_end r - s.pages.first.0 ≡ r.pages.count = omega arith in
      let there : run_map advance (s ∷ ss) (run_end r) ≡ Some (advance r.value r.pages.count) =
      run_in advance s ss (run_end r) (omega arith) (omega arith)
      ∙ ap Some (ap (advance s.value) k ∙ ap (λ v. advance v r.pages.count) (sym t)) in
      absurd (stops r rs a.1 a.2 (sym (run_high advance r rs (run_end r) (omega arith)) ∙ m (run_end r) ∙ there)))
      (λ g. g)

  first-same : (r s : Run V) (rs ss : List (Run V))
      → IsCoarsest advance (r ∷ rs)
      → IsCoarsest advance (s ∷ ss)
      → SameMap (r ∷ rs) (s ∷ ss)
      → r ≡ s
  first-same r s rs ss a b m =
      let back : SameMap (s ∷ ss) (r ∷ rs) = λ p. sym (m p) in
      let low_r = first-below r s rs ss a b m in
      let low_s = first-below s r ss rs b a back in
      let f : r.pages.first.0 ≡ s.pages.first.0 = omega arith in
      let t : r.value ≡ s.value =
      some-same r.value s.value
      (sym (first-value r rs a.0) ∙ m r.pages.first.0 ∙ ap (run_map advance (s ∷ ss)) f
      ∙ first-value s ss b.0) in
      let few_r = count-below r s rs ss a f t m in
      let few_s = count-below s r ss rs b (sym f) (sym t) back in
      run-same r s f (omega arith) t

  rest-same : (r s : Run V) (rs ss : List (Run V))
      → IsCoarsest advance (r ∷ rs)
      → IsCoarsest advance (s ∷ ss)
      → r ≡ s
      → SameMap (r ∷ rs) (s ∷ ss)
      → SameMap rs ss
  rest-same r s rs ss a b e m p =
      let ends : run_end s ≡ run_end r = ap run_end (sym e) in
      by_lt p (run_end r)
      (λ l. none_low advance (run_end r) p rs a.2 (starts_behind advance r rs a.1) l
      ∙ sym (none_low advance (run_end s) p ss b.2 (starts_behind advance s ss b.1) (omega arith)))
      (λ g. sym (run_high advance r rs p g) ∙ m p ∙ run_high advance s ss p (omega arith))

  pub once : (rs ss : List (Run V)) → IsCoarsest advance rs → IsCoarsest advance ss → SameMap rs ss → rs ≡ ss
  once [] [] a b m = refl
  once [] (s ∷ ss) a b m = absurd (none-some s.value None refl (m s.pages.first.0 ∙ first-value s ss b.0))
  once (r ∷ rs) [] a b m = absurd (none-some r.value None refl (sym (m r.pages.first.0) ∙ first-value r rs a.0))
  once (r ∷ rs) (s ∷ ss) a b m =
      let e : r ≡ s = first-same r s rs ss a b m in
      let es : rs ≡ ss = once rs ss a.2 b.2 (rest-same r s rs ss a b e m) in
      cc
