-- Frames in increasing order.
use Rattle.std.proofs.Common.{◌≡◌, ℕ, zero, suc, ◌+◌, ◌<◌, ◌≤◌, [], ◌∷◌, length, drop, refl, ap, ◌∙◌, arith, inl, inr, add-one}
use Rattle.std.specs.Prelude.{Contains, All, take}
use Rattle.std.specs.List.Sorted.{IsStrictlyIncreasing}
use Rattle.std.proofs.lemmas.Bool.{cases_lt, cases_eq}
use Rattle.std.proofs.lemmas.List.Elements.{All-nil, All-cons}
use Rattle.page_state.specs.Trees.{Pool, frames_from}
use Rattle.page_state.specs.Tables.{given, all_given}
use Rattle.hyp_pool.specs.Laws.{GivenBack}
use Rattle.hyp_pool.proofs.Given.{given-front, given-behind, contains_cons}

-- the frames rise, from `low` on
abbrev pub Rise : ℕ → Pool → Type 0
Rise low [] = Unit {0}
Rise low (x ∷ xs) = (low ≤ x) × Rise (x + 1) xs

-- this is what it means that each is below the next
pub rising : (low : ℕ) (xs : Pool) → Rise low xs → IsStrictlyIncreasing xs
rising low [] r k l = absurd (omega arith)
rising low (x ∷ []) r k l = absurd (omega arith)
rising low (x ∷ (y ∷ ys)) r zero l = omega (arith, r.1.0)
rising low (x ∷ (y ∷ ys)) r (suc k) l = rw add-one (rw add-one at (rising (x + 1) (y ∷ ys) r.1 k (omega arith)))

rise_from : (low x : ℕ) (xs : Pool) → low ≤ x → IsStrictlyIncreasing (x ∷ xs) → Rise low (x ∷ xs)
rise_from low x [] l r = (l, tt)
rise_from low x (y ∷ ys) l r =
    let first : x < y = r 0 (omega arith) in
    (l, rise_from (x + 1) y ys (omega arith) (λ k h. rw add-one (rw add-one at (r (suc k) (omega arith)))))

pub rise : (xs : Pool) → IsStrictlyIncreasing xs → Rise 0 xs
rise [] r = tt
rise (x ∷ xs) r = rise_from 0 x xs (omega arith) r

-- from further below they rise too
rise_lower : (low high : ℕ) (xs : Pool) → low ≤ high → Rise high xs → Rise low xs
rise_lower low high [] l r = tt
rise_lower low high (x ∷ xs) l r = (omega (arith, r.0), r.1)

rise_drop : (n low : ℕ) (xs : Pool) → Rise low xs → Rise low (drop n xs)
rise_drop zero low xs r = r
rise_drop (suc n) low [] r = tt
rise_drop (suc n) low (x ∷ xs) r = rise_drop n low xs (rise_lower low (x + 1) xs (omega (arith, r.0)) r.1)

pub rising_drop : (n : ℕ) (xs : Pool) → IsStrictlyIncreasing xs → IsStrictlyIncreasing (drop n xs)
rising_drop n xs r = rising 0 (drop n xs) (rise_drop n 0 xs (rise xs r))

rise_given : (low f : ℕ) (xs : Pool) → low ≤ f → (Contains xs f → ⊥) → Rise low xs → Rise low (given f xs)
rise_given low f [] l new r = (l, tt)
rise_given low f (x ∷ xs) l new r = elim (cases_lt f x) [
  | inl h ↦ rw (given-front f x xs h) (l, (omega arith, r.1))
  | inr h ↦
      let other : x < f =
      elim (cases_eq x f) [ inl e ↦ absurd (new ((contains_cons x f xs).1 (inl e))) | inr n ↦ omega arith ] in
      rw (given-behind f x xs h)
      (r.0, rise_given (x + 1) f xs (omega arith) (λ w. new ((contains_cons x f xs).1 (inr w))) r.1)
]

-- a frame that wasn't there leaves them rising
pub rising_given : (f : ℕ) (xs : Pool)
    → (Contains xs f → ⊥)
    → IsStrictlyIncreasing xs
    → IsStrictlyIncreasing (given f xs)
rising_given f xs new r = rising 0 (given f xs) (rise_given 0 f xs (omega arith) new (rise xs r))

rise_frames : (first n : ℕ) → Rise first (frames_from first n)
rise_frames first zero = tt
rise_frames first (suc n) = (omega arith, rise_frames (first + 1) n)

pub rising_frames : (first n : ℕ) → IsStrictlyIncreasing (frames_from first n)
rising_frames first n = rising first (frames_from first n) (rise_frames first n)

pub length-frames_from : (first n : ℕ) → length (frames_from first n) ≡ n
length-frames_from first zero = refl
length-frames_from first (suc n) = ap (λ k. suc k) (length-frames_from (first + 1) n)

-- a frame below all others comes to the front
given-least : (x low : ℕ) (xs : Pool) → x < low → Rise low xs → given x xs ≡ x ∷ xs
given-least x low [] l r = refl
given-least x low (y ∷ ys) l r = given-front x y ys (omega (arith, r.0))

back : (n low : ℕ) (p : Pool) → Rise low p → all_given (take n p) (drop n p) ≡ p
back zero low p r = refl
back (suc n) low [] r = refl
back (suc n) low (x ∷ xs) r = ap (given x) (back n (x + 1) xs r.1) ∙ given-least x (x + 1) xs (omega arith) r.1

pub given_back : GivenBack
given_back n p r = back n 0 p (rise p r)

-- the frames of a rising list are above what it rises from
above : (x low : ℕ) (xs : Pool) → x < low → Rise low xs → All (λ g. x < g) xs
above x low [] l r = All-nil (λ g. x < g)
above x low (y ∷ ys) l r = All-cons (λ g. x < g) y ys (omega (arith, r.0)) (above x (y + 1) ys (omega (arith, r.0)) r.1)

-- the first frame is the least
pub least_first : (x : ℕ) (xs : Pool) → IsStrictlyIncreasing (x ∷ xs) → All (λ g. x < g) xs
least_first x xs r = above x (x + 1) xs (omega arith) (rise (x ∷ xs) r).1

least_front : (n low : ℕ) (p : Pool) → Rise low p → All (λ f. All (λ g. f < g) (drop n p)) (take n p)
least_front zero low p r = All-nil (λ f. All (λ g. f < g) p)
least_front (suc n) low [] r = All-nil (λ f. All (λ g. f < g) [])
least_front (suc n) low (x ∷ xs) r =
    All-cons (λ f. All (λ g. f < g) (drop n xs)) x (take n xs)
    (above x (x + 1) (drop n xs) (omega arith) (rise_drop n (x + 1) xs r.1)) (least_front n (x + 1) xs r.1)

-- the first frames are below all others
pub least_taken : (n : ℕ) (p : Pool) → IsStrictlyIncreasing p → All (λ f. All (λ g. f < g) (drop n p)) (take n p)
least_taken n p r = least_front n 0 p (rise p r)
