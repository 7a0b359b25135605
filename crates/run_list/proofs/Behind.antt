-- A run that is put behind all others.
use Rattle.std.proofs.Common.{◌≡◌, ℕ, suc, ◌+◌, ◌-◌, ◌<◌, ◌≤◌, zero, Bool, true, false, List, [], ◌∷◌, ◌++◌, get_or, take, length, Option, refl, slice_set, sym, subst, ap, ◌∙◌, arith}
use Rattle.std.proofs.lemmas.List.{take_all}
use Rattle.page_state.specs.declared.entry.PageRange.{PageRange}
use Rattle.run_list.specs.declared.run.Run.{Run}
use Rattle.run_list.specs.Advance.{AdvanceLaws}
use Rattle.run_list.specs.Runs.{run_end, StartsFrom, EndBefore, IsCoarsest}
use Rattle.run_list.specs.Parts.{head_of, continues, longer, glue, one_run, run_of, edited_runs, runs_before, runs_behind}
use Rattle.run_list.proofs.Cases.{before_cases, behind_cases}
use Rattle.run_list.proofs.Glue.{glue_none}
use Rattle.run_list.proofs.Maps.{starts_behind}

pub last_put : {X : Type 0} (xs ys zs : List X) (n : ℕ)
    → length xs ≡ n
    → length ys ≡ n + 1
    → take (n + 1) ys ≡ take n xs ++ zs
    → ys ≡ xs ++ zs
last_put xs ys zs n e h t =
    sym (take_all (n + 1) ys (omega (arith, h))) ∙ t ∙ ap (λ us. us ++ zs) (take_all n xs (omega (arith, e)))

module _ {V : Type 0} (advance : V → ℕ → V) where
  -- where the last run ends before a page, all do
  pub ends_all : (q : ℕ) (rs : List (Run V)) (n : ℕ) (d : Run V)
      → IsCoarsest advance rs
      → length rs ≡ suc n
      → run_end (get_or rs n d) < q
      → EndBefore q rs
  ends_all q [] n d c h e = tt
  ends_all q (r ∷ []) n d c h e = let first : n ≡ 0 = omega (arith, h) in
      (subst (λ (k : ℕ). run_end (get_or (r ∷ []) k d) < q) first e, tt)
  ends_all q (r ∷ (w ∷ rs)) n d c h e =
      let next : n ≡ suc (n - 1) = omega (arith, h) in
      let more =
      ends_all q (w ∷ rs) (n - 1) d c.2 (omega (arith, h))
      (subst (λ (k : ℕ). run_end (get_or (r ∷ (w ∷ rs)) k d) < q) next e) in
      (omega (arith, c.1.before, more.0), more)

  none_there : (q : ℕ) (rs : List (Run V)) → IsCoarsest advance rs → StartsFrom q rs → EndBefore (q + 1) rs → rs ≡ []
  none_there q [] c s e = refl
  none_there q (r ∷ rs) c s e = absurd (omega (arith, c.0, s, e.0))

  cut_all : (q : ℕ) (r : Run V) (rs : List (Run V))
      → IsCoarsest advance (r ∷ rs)
      → EndBefore (q + 1) rs
      → run_end r ≡ q
      → head_of q r ∷ [] ≡ r ∷ rs
  cut_all q r rs c e end =
      let count : q - r.pages.first.0 ≡ r.pages.count = omega (arith, end) in
      let none : rs ≡ [] =
      none_there q rs c.2 (subst (λ (n : ℕ). StartsFrom n rs) end (starts_behind advance r rs c.1)) e in
      rw (none, count) refl

  -- all runs stand before the page
  before_all : (q : ℕ) (rs : List (Run V)) → IsCoarsest advance rs → EndBefore (q + 1) rs → runs_before q rs ≡ rs
  before_all q [] c e = refl
  before_all q (r ∷ rs) c e = before_cases (λ us. us ≡ r ∷ rs) q r rs
      (λ h. ap (λ us. r ∷ us) (before_all q rs c.2 e.1))
      (λ h k. cut_all q r rs c e.1 (omega (arith, h, e.0)))
      (λ h k. absurd (omega (arith, c.0, e.0, h, k)))

  -- and none from there on
  behind_none : (q p : ℕ) (rs : List (Run V)) → q ≤ p → EndBefore (q + 1) rs → runs_behind advance p rs ≡ []
  behind_none q p [] h e = refl
  behind_none q p (r ∷ rs) h e = behind_cases (λ us. us ≡ []) p r rs advance
      (λ k. behind_none q p rs h e.1)
      (λ k l. absurd (omega (arith, h, e.0, l)))
      (λ k l. absurd (omega (arith, h, e.0, k)))

  module _ (can : V → ℕ → Type 0) (same : V → V → Bool) (laws : AdvanceLaws advance can same) where
    pub behind_edited : (range : PageRange) (value : Option V) (rs : List (Run V))
        → IsCoarsest advance rs
        → EndBefore (range.first.0 + 1) rs
        → glue advance same rs (one_run (run_of range value)) ≡ edited_runs advance same range value rs
    behind_edited range value rs c e =
        rw (before_all range.first.0 rs c e, behind_none range.first.0 (range.first.0 + range.count) rs (omega arith) e)
        (sym (glue_none advance can same laws (glue advance same rs (one_run (run_of range value)))))

    -- the last run with the pages of one that continues it, or else that run behind it
    pub last_longer : (rs : List (Run V)) (n : ℕ) (d y : Run V)
        → length rs ≡ suc n
        → continues advance same (get_or rs n d) y ≡ true
        → slice_set rs n (longer (get_or rs n d) y) ≡ glue advance same rs (y ∷ [])
    last_longer [] n d y h t = absurd (omega (arith, h))
    last_longer (r ∷ []) zero d y h t = rw t refl
    last_longer (r ∷ []) (suc n) d y h t = absurd (omega (arith, h))
    last_longer (r ∷ (w ∷ rs)) zero d y h t = absurd (omega (arith, h))
    last_longer (r ∷ (w ∷ rs)) (suc n) d y h t = ap (λ us. r ∷ us) (last_longer (w ∷ rs) n d y (omega (arith, h)) t)

    pub last_behind : (rs : List (Run V)) (n : ℕ) (d y : Run V)
        → length rs ≡ suc n
        → continues advance same (get_or rs n d) y ≡ false
        → rs ++ y ∷ [] ≡ glue advance same rs (y ∷ [])
    last_behind [] n d y h t = absurd (omega (arith, h))
    last_behind (r ∷ []) zero d y h t = rw t refl
    last_behind (r ∷ []) (suc n) d y h t = absurd (omega (arith, h))
    last_behind (r ∷ (w ∷ rs)) zero d y h t = absurd (omega (arith, h))
    last_behind (r ∷ (w ∷ rs)) (suc n) d y h t = ap (λ us. r ∷ us) (last_behind (w ∷ rs) n d y (omega (arith, h)) t)

    pub first_behind : (rs : List (Run V)) (y : Run V) → length rs ≡ 0 → rs ++ y ∷ [] ≡ glue advance same rs (y ∷ [])
    first_behind [] y h = refl
    first_behind (r ∷ rs) y h = absurd (omega (arith, h))
