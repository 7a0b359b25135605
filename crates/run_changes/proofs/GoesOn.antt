-- How far a map of runs goes on as it does at a page.
use Rattle.std.proofs.Common.{◌≡◌, ℕ, zero, suc, ◌+◌, ◌-◌, ◌<◌, ◌≤◌, Bool, List, [], ◌∷◌, take, drop, length, get_or, Some, None, sym, ap, subst, ◌∙◌, arith}
use Rattle.std.specs.Option.{ForSome}
use Rattle.run_list.specs.declared.run.Run.{Run}
use Rattle.run_list.specs.Advance.{AdvanceLaws}
use Rattle.run_list.specs.Runs.{run_end, StartsFrom, IsCoarsest, AreInReach, run_map, value_on, option_advance}
use Rattle.run_list.specs.Parts.{BeginBy, IsBegunAt}
use Rattle.run_list.proofs.Maps.{starts_behind, starts_later}
use Rattle.run_list.proofs.Found.{begun_read, map_first, map_on, map_off, reach_read}
use Rattle.run_list.proofs.Once.{some-same, none-some}

begins_later : {V : Type 0} (a b : ℕ) (rs : List (Run V)) → a ≤ b → BeginBy a rs → BeginBy b rs
begins_later a b [] h t = tt
begins_later a b (r ∷ rs) h t = (omega (arith, h, t.0), begins_later a b rs h t.1)

module _ {V : Type 0} (advance : V → ℕ → V) where
  -- the run behind one begins at its end or later
  next_from : (j : ℕ) (rs : List (Run V)) (d : Run V)
      → IsCoarsest advance rs
      → j < length rs
      → StartsFrom (run_end (get_or rs j d)) (drop (suc j) rs)
  next_from j [] d c h = absurd (omega arith)
  next_from zero (r ∷ rs) d c h = starts_behind advance r rs c.1
  next_from (suc j) (r ∷ rs) d c h = next_from j rs d c.2 (omega arith)

  next_read : (i : ℕ) (rs : List (Run V)) (x : Run V)
      → IsCoarsest advance rs
      → x ≡ get_or rs (i - 1) x
      → 0 < i
      → i ≤ length rs
      → StartsFrom (run_end x) (drop i rs)
  next_read zero rs x c e z h = absurd (omega arith)
  next_read (suc j) rs x c e z h =
      let k : suc j - 1 ≡ j = omega arith in
      let f : x ≡ get_or rs j x = e ∙ ap (λ n. get_or rs n x) k in
      subst (λ y. StartsFrom (run_end y) (drop (suc j) rs)) (sym f) (next_from j rs x c (omega arith))

module _ {V : Type 0} (advance : V → ℕ → V) (can : V → ℕ → Type 0) (same : V → V → Bool)
    (laws : AdvanceLaws advance can same)
    (rs : List (Run V)) (c : IsCoarsest advance rs) (reach : AreInReach can rs) (page place : ℕ)
    (at : IsBegunAt page place rs) where
  -- no run begins between the page and a later one
  begun_on : (p : ℕ) → page ≤ p → StartsFrom (p + 1) (drop place rs) → IsBegunAt p place rs
  begun_on p h s = record { within = at.within; front = begins_later page p (take place rs) h at.front; back = s }

  -- inside a run
  module _ (x : Run V) (e : x ≡ get_or rs (place - 1) x) (z : 0 < place) (l : page < run_end x) where
    on_run : (p : ℕ) → page ≤ p → p < run_end x → run_map advance rs p ≡ Some (value_on advance x p)
    on_run p h k =
        map_on advance p rs c place x e
        (begun_on p h
        (starts_later (p + 1) (run_end x) (drop place rs) (omega arith)
        (next_read advance place rs x c e z at.within))) z k

    further : (p : ℕ) → page ≤ p → advance (value_on advance x page) (p - page) ≡ value_on advance x p
    further p h =
        let b = begun_read page place rs x e at z in
        let k : page - x.pages.first.0 + (p - page) ≡ p - x.pages.first.0 = omega (arith, b, h) in
        laws.more x.value (page - x.pages.first.0) (p - page) ∙ ap (advance x.value) k

    pub goes_inside : (p : ℕ)
        → page ≤ p
        → p < run_end x
        → run_map advance rs p ≡ option_advance advance (run_map advance rs page) (p - page)
    goes_inside p h k =
        on_run p h k ∙ ap Some (sym (further p h))
        ∙ ap (λ o. option_advance advance o (p - page)) (sym (on_run page (omega arith) l))

    pub reach_inside : (n : ℕ) → page + n ≤ run_end x → ForSome (run_map advance rs page) (λ v. can v n)
    reach_inside n h v f =
        let b = begun_read page place rs x e at z in
        let w : can x.value x.pages.count =
        (reach_read can (place - 1) rs x e reach (omega (arith, z, at.within))).values in
        let u : can x.value (page - x.pages.first.0 + n) =
        laws.shorter x.value (page - x.pages.first.0 + n) x.pages.count (omega (arith, b, h)) w in
        subst (λ y. can y n) (some-same (value_on advance x page) v (sym (on_run page (omega arith) l) ∙ f))
        (laws.rest x.value (page - x.pages.first.0) n u)

  -- where the page has no value
  module _ (end : ℕ) (s : StartsFrom end (drop place rs))
      (none : (p : ℕ) → IsBegunAt p place rs → page ≤ p → run_map advance rs p ≡ None) (m : page < end) where
    off_run : (p : ℕ) → page ≤ p → p < end → run_map advance rs p ≡ None
    off_run p h k = none p (begun_on p h (starts_later (p + 1) end (drop place rs) (omega arith) s)) h

    pub goes_outside : (p : ℕ)
        → page ≤ p
        → p < end
        → run_map advance rs p ≡ option_advance advance (run_map advance rs page) (p - page)
    goes_outside p h k =
        off_run p h k ∙ ap (λ o. option_advance advance o (p - page)) (sym (off_run page (omega arith) m))

    pub reach_outside : (n : ℕ) → ForSome (run_map advance rs page) (λ v. can v n)
    reach_outside n v f = absurd (none-some v (run_map advance rs page) (off_run page (omega arith) m) f)

  pub none_first : place ≡ 0 → (p : ℕ) → IsBegunAt p place rs → page ≤ p → run_map advance rs p ≡ None
  none_first e p b h = map_first advance p rs c place b e

  pub none_past : (x : Run V)
      → x ≡ get_or rs (place - 1) x
      → 0 < place
      → run_end x ≤ page
      → (p : ℕ)
      → IsBegunAt p place rs
      → page ≤ p
      → run_map advance rs p ≡ None
  none_past x e z l p b h = map_off advance p rs c place x e b z (omega (arith, l, h))
