-- States of records along runs.
use mathlib.Core.Path.{fun_ext}
use Rattle.std.proofs.Common.{◌≡◌, ℕ, zero, suc, ◌+◌, ◌-◌, ◌<◌, ◌≤◌, ◌^◌, Bool, true, false, List, [], ◌∷◌, ◌++◌, length, take, drop, get_or, Option, Some, None, refl, sym, ap, subst, ◌∙◌, arith}
use Rattle.std.specs.Prelude.{option_map, nat_lt, nat_le, if◌then◌else◌}
use Rattle.std.specs.Option.{ForSome}
use Rattle.std.proofs.lemmas.Bool.Decides.{nat_tests}
use Rattle.std.proofs.lemmas.List.{take_more}
use Rattle.page_state.proofs.Cases.{by_lt, by_test}
use Rattle.page_state.specs.Map.{is_within}
use Rattle.page_state.specs.Regions.{is_in_range}
use Rattle.page_state.specs.declared.entry.PageRange.{PageRange}
use Rattle.run_list.specs.Runs.{map_updated, option_advance, run_end, run_map, value_on, AreInReach, EndBefore, InReach, IsCoarsest}
use Rattle.run_list.specs.declared.run.Run.{Run}
use Rattle.run_list.proofs.Maps.{ends_later}
use Rattle.table_words.specs.declared.word.Decoded.{Decoded}
use Rattle.table_words.specs.declared.word.Decoded.TheVariants.{Malformed, Unmapped, Annotated, Poisoned, Locked, Cleared, Leaf, Table}
use Rattle.walked_tables.specs.declared.said.Said.{Said}
use Rattle.walked_tables.specs.Values.{advance_said, CanGo, CanGoOn}
use Rattle.walked_tables.specs.Advancing.{said_laws}
use Rattle.image_trees.specs.Records.{stated, stated_laid, stated_map}

if-true : {X : Type 0} (b : Bool) (x y : X) → b ≡ true → (if b then x else y) ≡ x
if-true true x y h = refl
if-true false x y h = absurd (cc)

if-false : {X : Type 0} (b : Bool) (x y : X) → b ≡ false → (if b then x else y) ≡ y
if-false true x y h = absurd (cc)
if-false false x y h = refl

within : (first count p : ℕ) → first ≤ p → p < first + count → is_within first count p ≡ true
within first count p h l = grind (arith, nat_tests)

before : (first count p : ℕ) → p < first → is_within first count p ≡ false
before first count p h = grind (arith, nat_tests)

past : (first count p : ℕ) → first + count ≤ p → is_within first count p ≡ false
past first count p h = grind (arith, nat_tests)

-- the runs from a place on
run_map-drop : (runs : List (Run Said)) (i page : ℕ) (d : Run Said)
    → i < length runs
    → run_map advance_said (drop i runs) page
    ≡ (if is_in_range (get_or runs i d).pages page then Some (value_on advance_said (get_or runs i d) page)
    else run_map advance_said (drop (suc i) runs) page)
run_map-drop [] i page d h = absurd (omega arith)
run_map-drop (r ∷ rs) zero page d h = refl
run_map-drop (r ∷ rs) (suc i) page d h = run_map-drop rs i page d (omega arith)

pub run_map-none : (runs : List (Run Said)) (i page : ℕ)
    → length runs ≤ i
    → run_map advance_said (drop i runs) page ≡ None
run_map-none [] zero page h = refl
run_map-none [] (suc i) page h = refl
run_map-none (r ∷ rs) zero page h = absurd (omega arith)
run_map-none (r ∷ rs) (suc i) page h = run_map-none rs i page (omega arith)

pub found-here : (runs : List (Run Said)) (i page : ℕ) (d : Run Said)
    → i < length runs
    → is_in_range (get_or runs i d).pages page ≡ true
    → run_map advance_said (drop i runs) page ≡ run_map advance_said runs page
    → run_map advance_said runs page ≡ Some (value_on advance_said (get_or runs i d) page)
found-here runs i page d less t e =
    sym e ∙ (run_map-drop runs i page d less ∙ if-true (is_in_range (get_or runs i d).pages page) _ _ t)

pub not-here : (runs : List (Run Said)) (i page : ℕ) (d : Run Said)
    → i < length runs
    → is_in_range (get_or runs i d).pages page ≡ false
    → run_map advance_said (drop i runs) page ≡ run_map advance_said runs page
    → run_map advance_said (drop (i + 1) runs) page ≡ run_map advance_said runs page
not-here runs i page d less t e =
    let next : i + 1 ≡ suc i = omega arith in
    ap (λ n. run_map advance_said (drop n runs) page) next
    ∙ (sym (run_map-drop runs i page d less ∙ if-false (is_in_range (get_or runs i d).pages page) _ _ t) ∙ e)

-- each run of a list is in reach
pub reached-at : (runs : List (Run Said)) (i : ℕ) (d : Run Said)
    → i < length runs
    → AreInReach CanGoOn runs
    → InReach CanGoOn (get_or runs i d)
reached-at [] i d h r = absurd (omega arith)
reached-at (x ∷ xs) zero d h r = r.0
reached-at (x ∷ xs) (suc i) d h r = reached-at xs i d (omega arith) r.1

-- a run's value goes on to each of its pages
pub goes-on : (run : Run Said) (n : ℕ) → n ≤ run.pages.count → InReach CanGoOn run → CanGoOn run.value n
goes-on run n h r = said_laws.shorter run.value n run.pages.count h r.values

in-run : (run : Run Said) (page : ℕ) → is_in_range run.pages page ≡ true → page - run.pages.first.0 ≤ run.pages.count
in-run run page t = grind (arith, nat_tests, t)

pub can-go : (runs : List (Run Said)) (i page : ℕ) (d : Run Said)
    → i < length runs
    → AreInReach CanGoOn runs
    → is_in_range (get_or runs i d).pages page ≡ true
    → CanGoOn (get_or runs i d).value (page - (get_or runs i d).pages.first.0)
can-go runs i page d less r t =
    goes-on (get_or runs i d) (page - (get_or runs i d).pages.first.0) (in-run (get_or runs i d) page t)
    (reached-at runs i d less r)

-- and one page further, from each of its pages
pub one-more : (run : Run Said) (k : ℕ)
    → k < run.pages.count
    → InReach CanGoOn run
    → CanGoOn (advance_said run.value k) 1
one-more run k h r =
    let to : CanGoOn run.value (k + 1) = said_laws.shorter run.value (k + 1) run.pages.count (omega arith) r.values in
    said_laws.rest run.value k 1 to

pub none_on : (v : Said) → advance_said v 0 ≡ v
none_on v = said_laws.none v

-- no page of a run that has none
pub none_laid : (record_of : ℕ → Option ℕ) (tree : ℕ) (run : Run Said) (old : ℕ → Option Said)
    → old ≡ stated_laid record_of tree run 0 old
none_laid record_of tree run old = fun_ext (λ p. by_lt p run.pages.first.0
    (λ l. sym (if-false (is_within run.pages.first.0 0 p) _ (old p) (before run.pages.first.0 0 p l)))
    (λ l. sym (if-false (is_within run.pages.first.0 0 p) _ (old p) (past run.pages.first.0 0 p (omega (arith, l))))))

-- one page more
module _ (record_of : ℕ → Option ℕ) (tree : ℕ) (run : Run Said) (k : ℕ) (old now next : ℕ → Option Said)
    (v : Said) where
  first : ℕ
  first = run.pages.first.0

  at-page : (p : ℕ)
      → v ≡ stated record_of tree (advance_said run.value k)
      → next p ≡ map_updated advance_said now (first + k) 1 (Some v) p
      → now p ≡ stated_laid record_of tree run k old p
      → next p ≡ stated_laid record_of tree run (k + 1) old p
  unfolding first
  at-page p is n e = by_lt p (first + k)
      (λ l.
      let none : is_within (first + k) 1 p ≡ false = before (first + k) 1 p l in
      let same : is_within first k p ≡ is_within first (k + 1) p = by_lt p first
      (λ m. before first k p m ∙ sym (before first (k + 1) p m))
      (λ m. within first k p m l ∙ sym (within first (k + 1) p m (omega (arith, l)))) in
      n
      ∙ (if-false (is_within (first + k) 1 p) _ (now p) none
      ∙ (e ∙ ap (λ b. if b then Some (stated record_of tree (value_on advance_said run p)) else old p) same)))
      (λ l. by_lt p (first + k + 1)
      (λ m.
      let here : p ≡ first + k = omega (arith, l, m) in
      let one : is_within (first + k) 1 p ≡ true = within (first + k) 1 p l m in
      let all : is_within first (k + 1) p ≡ true = within first (k + 1) p (omega (arith, l)) (omega (arith, m)) in
      let zeroth : p - (first + k) ≡ 0 = omega (arith, here) in
      let kth : p - first ≡ k = omega (arith, here) in
      let left : next p ≡ Some (advance_said v 0) =
      n ∙ (if-true (is_within (first + k) 1 p) _ (now p) one ∙ ap (λ z. Some (advance_said v z)) zeroth) in
      let right : stated_laid record_of tree run (k + 1) old p ≡ Some (stated record_of tree (advance_said run.value k)) =
      if-true (is_within first (k + 1) p) _ (old p) all
      ∙ ap (λ z. Some (stated record_of tree (advance_said run.value z))) kth in
      left ∙ (ap (λ z. Some z) (none_on v ∙ is) ∙ sym right))
      (λ m.
      let none : is_within (first + k) 1 p ≡ false = past (first + k) 1 p (omega (arith, m)) in
      let same : is_within first k p ≡ is_within first (k + 1) p =
      past first k p (omega (arith, m)) ∙ sym (past first (k + 1) p (omega (arith, m))) in
      n
      ∙ (if-false (is_within (first + k) 1 p) _ (now p) none
      ∙ (e ∙ ap (λ b. if b then Some (stated record_of tree (value_on advance_said run p)) else old p) same))))

  pub more_laid : v ≡ stated record_of tree (advance_said run.value k)
      → next ≡ map_updated advance_said now (run.pages.first.0 + k) 1 (Some v)
      → now ≡ stated_laid record_of tree run k old
      → next ≡ stated_laid record_of tree run (k + 1) old
  unfolding first
  more_laid is n e =
      fun_ext (λ p. at-page p is (ap (λ (f : ℕ → Option Said). f p) n) (ap (λ (f : ℕ → Option Said). f p) e))

-- later runs begin where a run ends, or behind it
starts_later : (r : Run Said) (rs : List (Run Said)) (i : ℕ) (d : Run Said)
    → IsCoarsest advance_said (r ∷ rs)
    → i < length rs
    → run_end r ≤ (get_or rs i d).pages.first.0
starts_later r [] i d c h = absurd (omega arith)
starts_later r (n ∷ rs) zero d c h = c.1.before
starts_later r (n ∷ rs) (suc i) d c h = let later = starts_later n rs i d c.2 (omega arith) in
    let here = c.1.before in
    omega (arith, later, here)

-- the runs before one end where it begins, or before
pub front_ends : (runs : List (Run Said)) (i : ℕ) (d : Run Said)
    → IsCoarsest advance_said runs
    → i < length runs
    → EndBefore ((get_or runs i d).pages.first.0 + 1) (take i runs)
front_ends [] i d c h = absurd (omega arith)
front_ends (r ∷ rs) zero d c h = tt
front_ends (r ∷ rs) (suc i) d c h = let later = starts_later r rs i d c (omega arith) in
    (omega (arith, later), front_ends rs i d c.2 (omega arith))

-- the run after one begins where it ends, or behind
begins_next : (runs : List (Run Said)) (i : ℕ) (d e : Run Said)
    → IsCoarsest advance_said runs
    → suc i < length runs
    → run_end (get_or runs i d) ≤ (get_or runs (suc i) e).pages.first.0
begins_next [] i d e c h = absurd (omega arith)
begins_next (r ∷ rs) zero d e c h = starts_later r rs 0 e c (omega arith)
begins_next (r ∷ rs) (suc i) d e c h = begins_next rs i d e c.2 (omega arith)

next_begins : (runs : List (Run Said)) (i : ℕ) (d e : Run Said)
    → IsCoarsest advance_said runs
    → i + 1 < length runs
    → run_end (get_or runs i d) ≤ (get_or runs (i + 1) e).pages.first.0
next_begins runs i d e c h =
    let next : i + 1 ≡ suc i = omega arith in
    subst (λ n. run_end (get_or runs i d) ≤ (get_or runs n e).pages.first.0) (sym next)
    (begins_next runs i d e c (omega arith))

pub behind-next : (runs : List (Run Said)) (i : ℕ) (d e : Run Said) (out : List (Run Said))
    → IsCoarsest advance_said runs
    → i + 1 < length runs
    → EndBefore (run_end (get_or runs i d) + 1) out
    → EndBefore ((get_or runs (i + 1) e).pages.first.0 + 1) out
behind-next runs i d e out c h k = let b = next_begins runs i d e c h in
    ends_later (run_end (get_or runs i d) + 1) ((get_or runs (i + 1) e).pages.first.0 + 1) out (omega (arith, b)) k

-- a run behind others
run_map-push : (xs : List (Run Said)) (r : Run Said) (p : ℕ)
    → EndBefore (r.pages.first.0 + 1) xs
    → run_map advance_said (xs ++ r ∷ []) p
    ≡ (if is_in_range r.pages p then Some (value_on advance_said r p) else run_map advance_said xs p)
run_map-push [] r p h = refl
run_map-push (x ∷ xs) r p h = by_test (is_in_range x.pages p)
    (λ t.
    let low : p < run_end x = grind (arith, nat_tests, t) in
    let not : is_in_range r.pages p ≡ false = before r.pages.first.0 r.pages.count p (omega (arith, low, h.0)) in
    if-true (is_in_range x.pages p) _ _ t
    ∙ sym (if-false (is_in_range r.pages p) _ _ not ∙ if-true (is_in_range x.pages p) _ _ t))
    (λ t. if-false (is_in_range x.pages p) _ _ t
    ∙ (run_map-push xs r p h.1
    ∙ ap (λ z. if is_in_range r.pages p then Some (value_on advance_said r p) else z)
    (sym (if-false (is_in_range x.pages p) _ _ t))))

-- one run more
pub more_stated : (record_of : ℕ → Option ℕ) (tree : ℕ) (runs : List (Run Said)) (i : ℕ) (d : Run Said)
    (now next : ℕ → Option Said)
    → IsCoarsest advance_said runs
    → i < length runs
    → now ≡ stated_map record_of tree (run_map advance_said (take i runs))
    → next ≡ stated_laid record_of tree (get_or runs i d) (get_or runs i d).pages.count now
    → next ≡ stated_map record_of tree (run_map advance_said (take (i + 1) runs))
more_stated record_of tree runs i d now next c h e n = fun_ext (λ p.
    let r = get_or runs i d in
    let pushed =
    ap (λ rs. run_map advance_said rs p) (take_more runs i d h)
    ∙ run_map-push (take i runs) r p (front_ends runs i d c h) in
    let before_ : now p ≡ stated_map record_of tree (run_map advance_said (take i runs)) p =
    ap (λ (f : ℕ → Option Said). f p) e in
    let after : next p ≡ stated_laid record_of tree r r.pages.count now p = ap (λ (f : ℕ → Option Said). f p) n in
    by_test (is_in_range r.pages p)
    (λ t. after
    ∙ (if-true (is_in_range r.pages p) _ (now p) t
    ∙ sym (ap (option_map (stated record_of tree)) (pushed ∙ if-true (is_in_range r.pages p) _ _ t))))
    (λ t. after
    ∙ (if-false (is_in_range r.pages p) _ (now p) t
    ∙ (before_
    ∙ sym (ap (option_map (stated record_of tree)) (pushed ∙ if-false (is_in_range r.pages p) _ _ t))))))
