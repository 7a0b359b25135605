-- Lists of passes.
use Rattle.std.proofs.Common.{◌≡◌, true, false, true≢false, ◌⊎◌, ℕ, zero, suc, ◌+◌, ◌<◌, ◌≤◌, Bool, List, [], ◌∷◌, ◌++◌, length, refl, sym, ap, subst, ⊎_elim, inl, inr, arith, length-set, ◌∙◌}
use Rattle.std.specs.Prelude.{Option, Some, None, slice_get, slice_set, slice_index_or, is_none, is_some}
use mathlib.Core.Logic.{dite}
use native.Mathlib.Decide.{ℕ_discrete}
use Rattle.call_table.specs.declared.reply.Call.{Call}
use Rattle.part_table.specs.Passes.{AreHomeFrom, IsPassOf, Opened, Pass}
use Rattle.part_table.proofs.Lists.{from, get_front, get_last, get_set_else}
use Rattle.part_types.specs.declared.parts.CpuState.{CpuState}
use Rattle.part_table.specs.declared.slot.Slot.{Slot}
use Rattle.part_table.specs.Endings.{ForEach, IsEndFor, KeepsOwn, KeepsSeen, KeepsTried}
use Rattle.cpu_threads.specs.Ends.{AreFreshAt, AreOf, HasAll, IsBack, IsOut, OfGiven}
use Rattle.cpu_threads.specs.Machines.{AreFresh, AreTheirs}
use Rattle.cpu_threads.specs.Rooms.{total, total_given}
use Rattle.cpu_threads.proofs.Totals.{given_end, total_set}

module _ {X : Type 0} where
  pub get_end : (l : List X) (a b : X) (j : ℕ)
      → slice_get (l ++ a ∷ []) j ≡ Some b
      → (slice_get l j ≡ Some b) ⊎ ((j ≡ length l) × (a ≡ b))
  get_end [] a b zero e = inr (refl, ap (from a) e)
  get_end [] a b (suc j) e = absurd cc
  get_end (x ∷ xs) a b zero e = inl e
  get_end (x ∷ xs) a b (suc j) e =
      ⊎_elim (λ t. inl t) (λ (t : (j ≡ length xs) × (a ≡ b)). inr (ap suc t.0, t.1)) (get_end xs a b j e)

  pub get_of_or : (l : List X) (j : ℕ) (d : X) → j < length l → d ≡ slice_index_or l j d → slice_get l j ≡ Some d
  get_of_or [] j d lt e = absurd (omega arith)
  get_of_or (y ∷ ys) zero d lt e = ap (λ (z : X). Some z) (sym e)
  get_of_or (y ∷ ys) (suc j) d lt e = get_of_or ys j d (omega arith) e

  pub none_there : (o : Option X) → is_none o ≡ true → o ≡ None
  none_there None e = refl
  none_there (Some x) e = absurd (true≢false (sym e))

  pub one_there : (o : Option X) → is_none o ≡ false → (x : X) × (o ≡ Some x)
  one_there None e = absurd (true≢false e)
  one_there (Some x) e = (x, refl)

  pub get_bound : (l : List X) (j : ℕ) (x : X) → slice_get l j ≡ Some x → j < length l
  get_bound [] j x e = absurd cc
  get_bound (y ∷ ys) zero x e = omega arith
  get_bound (y ∷ ys) (suc j) x e = let r = get_bound ys j x e in omega arith

  pub no_some : (o : Option X) → is_some o ≡ false → o ≡ None
  no_some None e = refl
  no_some (Some x) e = absurd (true≢false e)

  pub there_or_none : (l : List X) (j : ℕ) → j < length l → (x : X) × (slice_get l j ≡ Some x)
  there_or_none [] j lt = absurd (omega arith)
  there_or_none (y ∷ ys) zero lt = (y, refl)
  there_or_none (y ∷ ys) (suc j) lt = there_or_none ys j (omega arith)

  pub get_set_here : (l : List X) (i : ℕ) (a : X) → i < length l → slice_get (slice_set l i a) i ≡ Some a
  get_set_here [] i a lt = absurd (omega arith)
  get_set_here (y ∷ ys) zero a lt = refl
  get_set_here (y ∷ ys) (suc i) a lt = get_set_here ys i a (omega arith)

module _ (t : Opened) (passes : List (Option Pass)) (front : List Pass) (p : Pass) where
  -- a pass that was given goes to its place
  pub back_there : AreTheirs t passes → IsPassOf t p → AreTheirs t (slice_set passes p.knows.cpu (Some p))
  back_there old of c q e = dite (ℕ_discrete c p.knows.cpu)
      (λ is. let lt = get_bound (slice_set passes p.knows.cpu (Some p)) c (Some q) e in
      let len = length-set passes p.knows.cpu (Some p) in
      let same : p ≡ q =
      ap (from p)
      (ap (from (Some p))
      (sym (get_set_here passes p.knows.cpu (Some p) (omega arith))
      ∙ (ap (slice_get (slice_set passes p.knows.cpu (Some p))) (sym is) ∙ e))) in
      (subst (IsPassOf t) same of, sym (ap (λ (z : Pass). z.knows.cpu) same) ∙ sym is))
      (λ ne. old c q (sym (get_set_else passes p.knows.cpu c (Some p) ne) ∙ e))

  pub back_all : HasAll passes (front ++ p ∷ [])
      → p.knows.cpu < length passes
      → HasAll (slice_set passes p.knows.cpu (Some p)) front
  back_all old inside c lt out = dite (ℕ_discrete c p.knows.cpu)
      (λ is. let never : Some p ≡ None =
      ap (from (Some p))
      (sym (get_set_here passes p.knows.cpu (Some p) inside)
      ∙ (ap (slice_get (slice_set passes p.knows.cpu (Some p))) (sym is) ∙ out)) in
      absurd cc)
      (λ ne. let len = length-set passes p.knows.cpu (Some p) in
      let h = old c (omega arith) (sym (get_set_else passes p.knows.cpu c (Some p) ne) ∙ out) in
      ⊎_elim
      (λ was. record { place = h.place; pass = h.pass; there = was; cpu = h.cpu })
      (λ (w : (h.place ≡ length front) × (p ≡ h.pass)). absurd (ne (sym (ap (λ (z : Pass). z.knows.cpu) w.1 ∙ h.cpu))))
      (get_end front p h.pass h.place h.there))

  pub of_front : AreOf t (front ++ p ∷ []) → AreOf t front
  of_front old j q e = old j q (get_front front (p ∷ []) q j e)

  pub of_last : AreOf t (front ++ p ∷ []) → IsPassOf t p
  of_last old = old (length front) p (get_last front p (length front) refl)

-- once no pass is left, each is at home
pub all_home_by : (t : Opened) (passes : List (Option Pass))
    → AreTheirs t passes
    → HasAll passes []
    → AreHomeFrom t.table (length passes) 0 passes
all_home_by t passes theirs all j from below = let h = there_or_none passes j below in at h.0 h.1
  where
    at : (o : Option Pass)
        → slice_get passes j ≡ Some o
        → (p : Pass) × (slice_get passes j ≡ Some (Some p)) × (p.table ≡ t.table) × (p.knows.cpu ≡ j)
    at None e = let h = all j below e in let never = h.there in absurd cc
    at (Some p) e = let h = theirs j p e in (p, e, h.0.table, h.1)

-- while passes go back: a given one is still to come, or at its place; those that never were handed out are at theirs;
-- and the calls of all are no more
pub record Backs (first : List (Option Pass)) (all : List Pass) (passes : List (Option Pass))
    (given : List Pass) : Type 0 where
  pub each : (j : ℕ) (p : Pass) → slice_get all j ≡ Some p → (slice_get given j ≡ Some p) ⊎ IsBack passes p
  pub home : ForEach first (IsBack passes)
  pub few : (f : Call → Bool) → total f passes + total_given f given ≤ total f first + total_given f all

pub backs_none : (t : Opened) (passes : List (Option Pass)) (given : List Pass)
    → AreTheirs t passes
    → Backs passes given passes given
backs_none t passes given theirs = record {
  each = λ j p e. inl e;
  home = λ c p e. ap (slice_get passes) (theirs c p e).1 ∙ e;
  few = λ f. omega arith;
}

module _ (first passes : List (Option Pass)) (all front : List Pass) (p : Pass) where
  -- a pass goes back to a place that is free
  pub backs_one : Backs first all passes (front ++ p ∷ [])
      → IsOut passes p.knows.cpu
      → Backs first all (slice_set passes p.knows.cpu (Some p)) front
  backs_one b gone =
      let after : List (Option Pass) = slice_set passes p.knows.cpu (Some p) in
      let here : slice_get after p.knows.cpu ≡ Some (Some p) =
      get_set_here passes p.knows.cpu (Some p) (get_bound passes p.knows.cpu None gone) in
      let stays : (q : Pass) → IsBack passes q → IsBack after q =
      λ q e. get_set_else passes p.knows.cpu q.knows.cpu (Some p)
      (λ is. let never : Some q ≡ None = ap (from (Some q)) (sym e ∙ (ap (slice_get passes) is ∙ gone)) in
      absurd cc)
      ∙ e in
      record {
        each = λ j q e. ⊎_elim
            (λ (w : slice_get (front ++ p ∷ []) j ≡ Some q). ⊎_elim
            (λ was. inl was)
            (λ (z : (j ≡ length front) × (p ≡ q)). inr (subst (IsBack after) z.1 here))
            (get_end front p q j w))
            (λ (w : IsBack passes q). inr (stays q w))
            (b.each j q e);
        home = λ c q e. stays q (b.home c q e);
        few = λ f. omega (arith, b.few f, total_set f passes p.knows.cpu p gone, given_end f front p);
      }

-- once no pass is left, each given one is back
pub backs_all : (first passes : List (Option Pass)) (all : List Pass)
    → Backs first all passes []
    → OfGiven all (IsBack passes)
backs_all first passes all b j p e =
    ⊎_elim (λ (w : slice_get [] j ≡ Some p). absurd cc) (λ (w : IsBack passes p). w) (b.each j p e)

-- what holds of each pass at its place holds of each given one, once it is back
of_given_back : (passes : List (Option Pass)) (given : List Pass) (F : Pass → Type 0)
    → OfGiven given (IsBack passes)
    → ForEach passes F
    → OfGiven given F
of_given_back passes given F back each j p e = each p.knows.cpu p (back j p e)

-- so the end that a table has for its passes is one for the given ones
pub end_given : {A : Type 0} {t : Opened} {found : List (Slot A)} {cpus : List CpuState} (passes : List (Option Pass))
    (given : List Pass)
    → OfGiven given (IsBack passes)
    → IsEndFor t found cpus (ForEach passes)
    → IsEndFor t found cpus (OfGiven given)
end_given {t = t} {found = found} {cpus = cpus} passes given back e = record {
  end = e.end;
  goes_on = e.goes_on;
  own = of_given_back passes given (KeepsOwn cpus) back e.own;
  seen = of_given_back passes given (KeepsSeen found) back e.seen;
  tried = of_given_back passes given (KeepsTried t.layout e.end.left.log) back e.tried;
}

-- and a CPU whose pass was never handed out is as the table began
pub end_fresh : (t : Opened) (first passes : List (Option Pass)) (cpus : List CpuState)
    → AreFresh t first
    → ForEach first (IsBack passes)
    → ForEach passes (KeepsOwn cpus)
    → AreFreshAt t first cpus
end_fresh t first passes cpus fresh stays own c home =
    let p = home.0 in
    let is = fresh c p home.1 in
    ap (slice_get cpus) (sym (ap (λ (q : Pass). q.knows.cpu) is))
    ∙ (own p.knows.cpu p (stays c p home.1) ∙ ap (λ (q : Pass). Some q.knows.own) is)
