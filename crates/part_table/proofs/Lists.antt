-- Places of lists.
use Rattle.std.proofs.Common.{◌≡◌, ◌≢◌, Bool, false, ℕ, zero, suc, ◌+◌, List, [], ◌∷◌, ◌++◌, length, refl, sym, ap, ◌∙◌, arith, length-append}
use Rattle.std.specs.Prelude.{Option, Some, None, slice_get, slice_set, slice_index_or}
use mathlib.Core.Option.{some}
use mathlib.Core.Logic.{dite}
use native.Mathlib.Decide.{ℕ_discrete}
use lib.ListN.{get_elem?}
use Rattle.atomic_table.proofs.Lists.{at_longer}
use Rattle.part_types.specs.declared.parts.CpuState.{CpuState}
use Rattle.part_table.specs.Endings.{HaveEnded}
use Rattle.part_table.specs.Passes.{AreFirst, Opened, Pass, first_pass}
use Rattle.part_table.specs.Rule.{Ended}

module _ {X : Type 0} where
  abbrev pub from : X → Option X → X
  from d None = d
  from d (Some x) = x

  pub get_front : (l m : List X) (b : X) (j : ℕ) → slice_get l j ≡ Some b → slice_get (l ++ m) j ≡ Some b
  get_front [] m b j e = absurd cc
  get_front (x ∷ xs) m b zero e = e
  get_front (x ∷ xs) m b (suc j) e = get_front xs m b j e

  pub get_last : (l : List X) (a : X) (j : ℕ) → j ≡ length l → slice_get (l ++ a ∷ []) j ≡ Some a
  get_last [] a zero e = refl
  get_last [] a (suc j) e = absurd (omega arith)
  get_last (x ∷ xs) a zero e = absurd (omega arith)
  get_last (x ∷ xs) a (suc j) e = get_last xs a j (omega arith)

  pub or_of_get : (l : List X) (j : ℕ) (d x : X) → slice_get l j ≡ Some x → slice_index_or l j d ≡ x
  or_of_get [] j d x e = absurd cc
  or_of_get (y ∷ ys) zero d x e = ap (from x) e
  or_of_get (y ∷ ys) (suc j) d x e = or_of_get ys j d x e

  pub get_set_else : (l : List X) (i j : ℕ) (a : X) → j ≢ i → slice_get (slice_set l i a) j ≡ slice_get l j
  get_set_else [] i j a ne = refl
  get_set_else (y ∷ ys) zero zero a ne = absurd (ne refl)
  get_set_else (y ∷ ys) zero (suc j) a ne = refl
  get_set_else (y ∷ ys) (suc i) zero a ne = refl
  get_set_else (y ∷ ys) (suc i) (suc j) a ne = get_set_else ys i j a (λ e. ne (ap suc e))

  pub elem_of_get : (l : List X) (j : ℕ) (x : X) → slice_get l j ≡ Some x → get_elem? l j ≡ some x
  elem_of_get [] j x e = absurd cc
  elem_of_get (y ∷ ys) zero x e = ap (λ z. some z) (ap (from x) e)
  elem_of_get (y ∷ ys) (suc j) x e = elem_of_get ys j x e

pub set_false : (l : List Bool) (i : ℕ) → slice_index_or (slice_set l i false) i false ≡ false
set_false [] i = refl
set_false (y ∷ ys) zero = refl
set_false (y ∷ ys) (suc i) = set_false ys i

-- one pass more, each before its CPU's first call
pub first_more : (t : Opened) (n : ℕ) (passes : List (Option Pass)) (p : Pass)
    → AreFirst t n passes
    → p ≡ first_pass t n
    → AreFirst t (n + 1) (passes ++ Some p ∷ [])
first_more t n passes p old new = (
  length-append passes (Some p ∷ []) ∙ ap (λ m. m + 1) old.0,
  λ c lt. dite (ℕ_discrete c n)
      (λ is. get_last passes (Some p) c (is ∙ sym old.0)
      ∙ ap (λ (q : Pass). Some (Some q)) (new ∙ ap (first_pass t) (sym is)))
      (λ ne. get_front passes (Some p ∷ []) (Some (first_pass t c)) c (old.1 c (omega arith))),
)

-- one pass more has ended
pub one_more_ended : (n : ℕ) (passes : List (Option Pass)) (ended : List Ended) (cpus : List CpuState) (p : Pass)
    (e : Ended) (own : CpuState)
    → HaveEnded n passes ended cpus
    → slice_get passes n ≡ Some (Some p)
    → e ≡ (p.knows.own, p.knows.seen, p.knows.tries)
    → own ≡ p.knows.own
    → HaveEnded (n + 1) passes (ended ++ e ∷ []) (cpus ++ own ∷ [])
one_more_ended n passes ended cpus p e own old here ends stands = (
  length-append ended (e ∷ []) ∙ ap (λ m. m + 1) old.0,
  length-append cpus (own ∷ []) ∙ ap (λ m. m + 1) old.1,
  λ c q lt there. dite (ℕ_discrete c n)
      (λ is. let same : p ≡ q =
      ap (from p) (ap (from (Some p)) (sym here ∙ (ap (slice_get passes) (sym is) ∙ there))) in (
        elem_of_get (ended ++ e ∷ []) c e (get_last ended e c (is ∙ sym old.0))
            ∙ ap (λ z. some z) (ends ∙ ap (λ (z : Pass). (z.knows.own, z.knows.seen, z.knows.tries)) same),
        get_last cpus own c (is ∙ sym old.1)
            ∙ ap (λ (z : CpuState). Some z) (stands ∙ ap (λ (z : Pass). z.knows.own) same),
      ))
      (λ ne. let h = old.2 c q (omega arith) there in (
        at_longer ended (e ∷ []) c (q.knows.own, q.knows.seen, q.knows.tries) h.0,
        get_front cpus (own ∷ []) q.knows.own c h.1,
      )),
)
