-- Tables that were met.
use Rattle.std.proofs.Common.{◌≡◌, ℕ, suc, true, false, List, [], ◌∷◌, ◌++◌, Some, None, cond, refl, sym, ap, subst, ◌∙◌, arith}
use Rattle.std.specs.Prelude.{All, AllPairs, Contains, ◌==◌}
use Rattle.std.proofs.lemmas.Bool.Decides.{nat_tests}
use Rattle.std.proofs.lemmas.List.{append_assoc}
use Rattle.std.proofs.lemmas.List.Elements.{All-cons, All-nil}
use Rattle.std.proofs.lemmas.List.Quantifiers.{all_pairs_push}
use Rattle.page_state.proofs.Cases.{by_test}
use Rattle.walked_tables.specs.declared.reached.Reached.{Reached}
use Rattle.walked_tables.specs.declared.reached.Stopped.{Stopped}
use Rattle.walked_tables.specs.declared.reached.Stopped.TheVariants.{Again, NoMemory}
use Rattle.walked_tables.specs.Reached.{AreOtherFrames, IsAgain, IsOfFrame, IsStopped, reached_of}

equal : (a b : ℕ) → (a == b) ≡ true → a ≡ b
equal a b t = grind (arith, nat_tests)

other : (a b : ℕ) → (a == b) ≡ false → a ≡ b → ⊥
other a b t e = grind (arith, nat_tests)

pub none_met : (met : List Reached) (f : ℕ) → reached_of met f ≡ None → All (λ r. IsOfFrame f r → ⊥) met
none_met [] f e = All-nil (λ r. IsOfFrame f r → ⊥)
none_met (r ∷ rs) f e = by_test (r.frame == f)
    (λ t. let no : Some r ≡ None = sym (ap (λ b. cond b (Some r) (reached_of rs f)) t) ∙ e in absurd (cc))
    (λ t. All-cons (λ r. IsOfFrame f r → ⊥) r rs (other r.frame f t)
    (none_met rs f (sym (ap (λ b. cond b (Some r) (reached_of rs f)) t) ∙ e)))

pub some_met : (met : List Reached) (f : ℕ) (x : Reached) → reached_of met f ≡ Some x → Contains met x × IsOfFrame f x
some_met [] f x e = absurd (cc)
some_met (r ∷ rs) f x e = by_test (r.frame == f)
    (λ t.
    let same : Some r ≡ Some x = sym (ap (λ b. cond b (Some r) (reached_of rs f)) t) ∙ e in
    let is : r ≡ x = cc in
    ((0, omega arith, is), subst (IsOfFrame f) is (equal r.frame f t)))
    (λ t.
    let more = some_met rs f x (sym (ap (λ b. cond b (Some r) (reached_of rs f)) t) ∙ e) in
    let less = more.0.1 in
    ((suc more.0.0, omega (arith, less), more.0.2), more.1))

-- one more of another frame
pub apart_more : (met new : List Reached) (r : Reached)
    → AllPairs AreOtherFrames met
    → All (λ x. IsOfFrame r.frame x → ⊥) met
    → new ≡ met ++ r ∷ []
    → AllPairs AreOtherFrames new
apart_more met new r h a e = rw e (all_pairs_push AreOtherFrames met r h (λ k d l. a k d l))

-- a walk that goes on has the reason of its beginning
pub stopped_on : (xs ys zs : List Reached) (s : Stopped) → zs ≡ xs ++ ys → IsStopped xs s → IsStopped zs s
stopped_on xs ys zs (Again first second) e h = record {
  front = h.front;
  back = h.back ++ ys;
  in_order = e ∙ ap (λ us. us ++ ys) h.in_order ∙ append_assoc h.front (second ∷ h.back) ys;
  apart = h.apart;
  earlier = h.earlier;
  frame = h.frame;
}
stopped_on xs ys zs NoMemory e h = tt

pub again : (met : List Reached) (next first : Reached)
    → AllPairs AreOtherFrames met
    → reached_of met next.frame ≡ Some first
    → IsAgain (met ++ next ∷ []) first next
again met next first apart e = let found = some_met met next.frame first e in record {
  front = met;
  back = [];
  in_order = refl;
  apart = apart;
  earlier = found.0;
  frame = found.1;
}
