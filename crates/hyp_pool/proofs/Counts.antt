-- Giving many frames: only their counts matter.
use Rattle.std.proofs.Common.{◌≡◌, ℕ, suc, ◌+◌, ◌<◌, ◌≤◌, List, [], ◌∷◌, refl, ap, sym, ◌∙◌, arith, inl, inr}
use Rattle.std.specs.Prelude.{◌⊎◌, ◌↔◌, ◌==◌, Contains, if◌then◌else◌}
use Rattle.std.proofs.lemmas.Bool.{cases_eq, eq-eqb, ne_eqb}
use Rattle.page_state.specs.Trees.{Pool}
use Rattle.page_state.specs.Tables.{given, all_given}
use Rattle.page_state.specs.Counts.{frame_count}
use Rattle.page_state.proofs.Counts.{count_next}
use Rattle.hyp_pool.specs.Laws.{GivenCounted, GivenAppend, AllGivenLength, AllGivenCount, CountContains, CountOnce}
use Rattle.hyp_pool.proofs.Order.{Rise, rise}
use Rattle.hyp_pool.proofs.Given.{given_swap, given_length, given_count, contains_cons}

-- a frame in front of a list is there once more
count-same : (f g : ℕ) (fs : List ℕ) → g ≡ f → frame_count f (g ∷ fs) ≡ suc (frame_count f fs)
count-same f g fs e = rw (count_next f g fs, eq-eqb g f e) (omega arith)

-- and another frame as often
count-other : (f g : ℕ) (fs : List ℕ) → (g ≡ f → ⊥) → frame_count f (g ∷ fs) ≡ frame_count f fs
count-other f g fs n = rw (count_next f g fs, ne_eqb g f n) (omega arith)

-- a list without one occurrence of a frame
abbrev without : ℕ → List ℕ → List ℕ
without f [] = []
without f (g ∷ gs) = if g == f then gs else g ∷ without f gs

without-same : (f g : ℕ) (gs : List ℕ) → g ≡ f → without f (g ∷ gs) ≡ gs
without-same f g gs e = rw (eq-eqb g f e) refl

without-other : (f g : ℕ) (gs : List ℕ) → (g ≡ f → ⊥) → without f (g ∷ gs) ≡ g ∷ without f gs
without-other f g gs n = rw (ne_eqb g f n) refl

-- the counts with that occurrence in front are those of the list
count-without : (f h : ℕ) (gs : List ℕ) → 0 < frame_count f gs → frame_count h (f ∷ without f gs) ≡ frame_count h gs
count-without f h [] l = absurd (omega arith)
count-without f h (g ∷ gs) l = elim (cases_eq g f) [
  | inl e ↦ rw (without-same f g gs e, e) refl
  | inr n ↦
      let rest : 0 < frame_count f gs = rw (count-other f g gs n) at l in
      rw (without-other f g gs n)
      (omega (
        arith,
        count-without f h gs rest,
        count_next h f (g ∷ without f gs),
        count_next h g (without f gs),
        count_next h f (without f gs),
        count_next h g gs,
      ))
]

-- and so is what they make of a pool
given-without : (f : ℕ) (gs : List ℕ) (p : Pool)
    → 0 < frame_count f gs
    → given f (all_given (without f gs) p) ≡ all_given gs p
given-without f [] p l = absurd (omega arith)
given-without f (g ∷ gs) p l = elim (cases_eq g f) [
  | inl e ↦ rw (without-same f g gs e, e) refl
  | inr n ↦
      let rest : 0 < frame_count f gs = rw (count-other f g gs n) at l in
      ap (λ q. given f (all_given q p)) (without-other f g gs n)
      ∙ (given_swap f g (all_given (without f gs) p) ∙ ap (given g) (given-without f gs p rest))
]

cancel : (a b c d : ℕ) → a + b ≡ c → a + d ≡ c → b ≡ d
cancel a b c d p q = omega arith

pub given_counted : GivenCounted
given_counted [] [] p same = refl
given_counted [] (g ∷ gs) p same = let none : 0 ≡ frame_count g (g ∷ gs) = same g in
    absurd (omega (arith, count-same g g gs refl))
given_counted (f ∷ fs) gs p same =
    let some : 0 < frame_count f gs = omega (arith, same f, count-same f f fs refl) in
    ap (given f)
    (given_counted fs (without f gs) p
    (λ h. cancel (if f == h then 1 else 0) (frame_count h fs) (frame_count h gs) (frame_count h (without f gs))
    (sym (count_next h f fs) ∙ same h) (sym (count_next h f (without f gs)) ∙ count-without f h gs some)))
    ∙ given-without f gs p some

pub given_append : GivenAppend
given_append [] gs p = refl
given_append (f ∷ fs) gs p = ap (given f) (given_append fs gs p)

-- where another frame is in front
contains_behind : (f g : ℕ) (gs : List ℕ)
    → (g ≡ f → ⊥)
    → (Contains gs f ↔ (0 < frame_count f gs))
    → Contains (g ∷ gs) f ↔ (0 < frame_count f (g ∷ gs))
contains_behind f g gs n w =
    rw (count-other f g gs n)
    ((λ h. behind ((contains_cons g f gs).0 h)), (λ l. (contains_cons g f gs).1 (inr (w.1 l)))) where
      behind : ((g ≡ f) ⊎ Contains gs f) → 0 < frame_count f gs
      behind (inl e) = absurd (n e)
      behind (inr h) = w.0 h

pub count_contains : CountContains
count_contains f [] = ((λ w. absurd (omega (arith, w.1))), (λ l. absurd (omega arith)))
count_contains f (g ∷ gs) = elim (cases_eq g f) [
  | inl e ↦ rw (count-same f g gs e) ((λ _. omega arith), (λ _. (contains_cons g f gs).1 (inl e)))
  | inr n ↦ contains_behind f g gs n (count_contains f gs)
]

pub all_given_length : AllGivenLength
all_given_length [] p = omega arith
all_given_length (f ∷ fs) p = omega (arith, given_length f (all_given fs p), all_given_length fs p)

pub all_given_count : AllGivenCount
all_given_count f [] p = omega arith
all_given_count f (g ∷ gs) p =
    omega (
      arith,
      given_count g f (all_given gs p),
      count_next f g (all_given gs p),
      count_next f g gs,
      all_given_count f gs p,
    )

-- a frame below all others isn't there, and none is there twice
rise_none : (low f : ℕ) (xs : Pool) → f < low → Rise low xs → frame_count f xs ≡ 0
rise_none low f [] l r = refl
rise_none low f (x ∷ xs) l r =
    let first : low ≤ x = r.0 in
    let other : x ≡ f → ⊥ = λ e. omega arith in
    count-other f x xs other ∙ rise_none (x + 1) f xs (omega arith) r.1

rise_once : (low f : ℕ) (xs : Pool) → Rise low xs → frame_count f xs ≤ 1
rise_once low f [] r = omega arith
rise_once low f (x ∷ xs) r = elim (cases_eq x f) [
  | inl e ↦ omega (arith, count-same f x xs e, rise_none (x + 1) f xs (omega arith) r.1)
  | inr n ↦ omega (arith, count-other f x xs n, rise_once (x + 1) f xs r.1)
]

pub count_once : CountOnce
count_once f p h = rise_once 0 f p (rise p h)
