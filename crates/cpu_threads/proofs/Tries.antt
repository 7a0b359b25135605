-- Tries, one after another, and passes that are handed out.
use Rattle.std.proofs.Common.{◌≡◌, ℕ, ◌<◌, List, [], ◌∷◌, ◌++◌, append-nil, length, length-set, refl, sym, ap, ◌∙◌, subst, arith}
use Rattle.std.specs.Prelude.{Option, Some, None, IfSome, flat_map, slice_get, slice_set}
use Rattle.std.proofs.lemmas.List.{append_assoc, map-append}
use Rattle.std.proofs.lemmas.List.Elements.{All-nil, All-push}
use Rattle.std.proofs.lemmas.List.Concat.{flat_map-append}
use mathlib.Core.Logic.{dite}
use native.Mathlib.Decide.{ℕ_discrete}
use Rattle.call_table.specs.declared.step.Step.{Step}
use Rattle.part_table.specs.Answered.{FindsAway, StoresNothing}
use Rattle.part_table.specs.Passes.{AreFirst, IsPassOf, Opened, Pass, first_pass}
use Rattle.part_table.specs.Known.{IsSame, Known, Try}
use Rattle.part_table.proofs.Added.{timed}
use Rattle.part_table.proofs.Lists.{get_set_else}
use Rattle.cpu_threads.specs.Machines.{AreFresh, AreTheirs, HandsOut, MeetsOnly}
use Rattle.cpu_threads.proofs.Ends.{get_bound, get_set_here}

pub same_on : (u v w : Known) → IsSame u v → IsSame v w → IsSame u w
same_on u v w a b = b ∙ ap (λ (k : Known). record k { tries = w.tries }) a

-- before the first try
pub meets_none : (step : Step) (v : Known) → StoresNothing (MeetsOnly step v) v v
meets_none step v =
    record {
      same = refl;
      tries = [];
      tried = sym (append-nil v.tries);
      found = ([], refl, All-nil (FindsAway step v));
    }

-- one try more that met another pass
pub meets_more : (step : Step) (v w x : Known)
    → StoresNothing (MeetsOnly step v) v w
    → StoresNothing (FindsAway step w) w x
    → StoresNothing (MeetsOnly step v) v x
meets_more step v w x m f =
    let n : ℕ = length v.own.log.calls in
    let met : List Try = flat_map (λ us. us) m.found.0 in
    record {
      same = same_on v w x m.same f.same;
      tries = m.tries ++ f.tries;
      tried =
          f.tried
          ∙ (ap (λ (k : Known). w.tries ++ timed (length k.own.log.calls) f.tries) m.same
          ∙ (ap (λ ts. ts ++ timed n f.tries) m.tried
          ∙ (append_assoc v.tries (timed n m.tries) (timed n f.tries)
          ∙ ap (λ ts. v.tries ++ ts) (sym (map-append (λ (t : Try). (n, t)) m.tries f.tries)))));
      found = (
        m.found.0 ++ f.tries ∷ [],
        ap (λ ts. ts ++ f.tries) m.found.1
            ∙ (ap (λ ts. met ++ ts) (sym (append-nil f.tries))
            ∙ sym (flat_map-append (λ us. us) m.found.0 (f.tries ∷ []))),
        All-push (FindsAway step v) m.found.0 f.tries m.found.2
            (subst (λ (k : Known). FindsAway step k f.tries) m.same f.found),
      );
    }

-- what lies at a CPU's place is its pass, or nothing
pub handed : (t : Opened) (passes : List (Option Pass)) (cpu : ℕ) (o : Option Pass)
    → AreTheirs t passes
    → slice_get passes cpu ≡ Some o
    → IfSome o (λ p. IsPassOf t p × (p.knows.cpu ≡ cpu))
handed t passes cpu None theirs e = tt
handed t passes cpu (Some p) theirs e = theirs cpu p e

abbrev or_pass : Pass → Option (Option Pass) → Pass
or_pass d None = d
or_pass d (Some None) = d
or_pass d (Some (Some p)) = p

-- a pass that has made no call is of the table, and its CPU's
pub fresh_theirs : (t : Opened) (passes : List (Option Pass)) → AreFresh t passes → AreTheirs t passes
fresh_theirs t passes fresh c p e =
    let is : p ≡ first_pass t c = fresh c p e in (
      record { table = ap (λ (q : Pass). q.table) is; layout = ap (λ (q : Pass). q.knows.layout) is },
      ap (λ (q : Pass). q.knows.cpu) is,
    )

pub first_fresh : (t : Opened) (n : ℕ) (passes : List (Option Pass)) → AreFirst t n passes → AreFresh t passes
first_fresh t n passes first c p e =
    let below : c < length passes = get_bound passes c (Some p) e in
    let long : length passes ≡ n = first.0 in
    ap (or_pass p) (sym e ∙ first.1 c (omega arith))

abbrev or_none : Option Pass → Option (Option Pass) → Option Pass
or_none d None = d
or_none d (Some o) = o

-- nothing is left at the place of a pass that is handed out
module _ (passes : List (Option Pass)) (cpu : ℕ) (left : Option Pass) (inside : cpu < length passes)
    (none : left ≡ None) where
  empty_there : slice_get (slice_set passes cpu left) cpu ≡ Some None
  empty_there = get_set_here passes cpu left inside ∙ ap (λ (o : Option Pass). Some o) none

  pub hands_out : (o : Option Pass) → slice_get passes cpu ≡ Some o → HandsOut o cpu passes (slice_set passes cpu left)
  hands_out o there = record {
    there = λ _. (there, empty_there);
    beyond = λ past. absurd (omega (arith, inside, past));
    others = λ j ne. get_set_else passes cpu j left ne;
    count = length-set passes cpu left;
  }

  pub others_fresh : (t : Opened) → AreFresh t passes → AreFresh t (slice_set passes cpu left)
  others_fresh t fresh c p e = dite (ℕ_discrete c cpu)
      (λ is. let never : None ≡ Some p =
      ap (or_none None) (sym empty_there ∙ (ap (slice_get (slice_set passes cpu left)) (sym is) ∙ e)) in
      absurd cc)
      (λ ne. fresh c p (sym (get_set_else passes cpu c left ne) ∙ e))
