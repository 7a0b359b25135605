-- Frames given back to a pool, one by one.
use Rattle.std.proofs.Common.{◌≡◌, ℕ, ◌+◌, ◌<◌, ◌≤◌, refl, ap, arith, ◌∙◌, List, [], ◌∷◌, length, take, drop, length-append, length-drop}
use Rattle.std.specs.List.{Contains}
use Rattle.std.proofs.lemmas.Bool.Decides.{nat_tests}
use Rattle.std.proofs.lemmas.List.{take-append-drop}
use Rattle.page_state.specs.Trees.{Pool}
use Rattle.page_state.specs.Tables.{given, all_given}
use Rattle.page_state.specs.Counts.{frame_count, is_one}
use Rattle.hyp_pool.specs.Laws.{GivenSwap, CountContains}

-- a frame given first or last
pub given_through : GivenSwap → (fs : List ℕ) (f : ℕ) (p : Pool) → all_given fs (given f p) ≡ given f (all_given fs p)
given_through swap [] f p = refl
given_through swap (g ∷ fs) f p = ap (given g) (given_through swap fs f p) ∙ swap g f (all_given fs p)

-- a frame that isn't counted isn't there
pub not_there : CountContains → (f : ℕ) (p : Pool) → frame_count f p ≡ 0 → Contains p f → ⊥
not_there law f p h k = let x : 0 < frame_count f p = (law f p).0 k in omega arith

pub one_self : (f : ℕ) → is_one f f ≡ 1
one_self f = grind (arith, nat_tests)

pub take_drop_length : (n : ℕ) (fs : List ℕ) → length (take n fs) + length (drop n fs) ≡ length fs
take_drop_length n fs = let e = ap length (take-append-drop n fs) in
    let a = length-append (take n fs) (drop n fs) in
    omega (arith, e, a)

-- a list of no length has no element
pub none_left : (fs : List ℕ) → length fs ≡ 0 → fs ≡ []
none_left [] h = refl
none_left (f ∷ fs) h = absurd (omega (arith, h))

-- as many as are taken
pub take_length : (n : ℕ) (fs : List ℕ) → n ≤ length fs → length (take n fs) ≡ n
take_length n fs h = let a = take_drop_length n fs in let b = length-drop n fs in omega (arith, a, b, h)
