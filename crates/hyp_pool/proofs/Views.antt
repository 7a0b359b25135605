-- How a pool's list, the highest first, is seen.
use Rattle.std.proofs.Common.{◌≡◌, ℕ, ◌+◌, ◌-◌, ◌<◌, ◌≤◌, List, [], ◌∷◌, ◌++◌, length, take, drop, get_or, refl, ap, sym, ◌∙◌, arith, inl, inr, true, false, ltb}
use Rattle.std.specs.Prelude.{All, reverse}
use Rattle.std.specs.List.{AllWithin}
use Rattle.std.specs.List.Sorted.{IsStrictlyIncreasing}
use Rattle.std.proofs.lemmas.Bool.{cases_eq, ltb-true, ltb-false}
use Rattle.std.proofs.lemmas.List.{reverse-append, length-reverse, length-map, length-drop, length-take-le, map-append, take-append-drop, take_at, drop_at, get_or-take, get_or-drop, get_or-map, get_or-reverse, append_assoc}
use Rattle.std.proofs.lemmas.List.Elements.{All-head, All-tail, All-map}
use Rattle.std.proofs.lemmas.List.Kept.{AllPairs-from_increasing}
use Rattle.std.proofs.lemmas.List.Sorted.{All-permutation, IsPermutation-reverse}
use Rattle.page_state.specs.declared.Frame.{Frame}
use Rattle.page_state.specs.Trees.{Pool}
use Rattle.page_state.specs.Tables.{given}
use Rattle.hyp_pool.specs.Pools.{numbers, lowest_first}
use Rattle.hyp_pool.proofs.Given.{given-front, given-behind}

abbrev number : Frame → ℕ
number f = f.0

pub lowest_first-append : (fs gs : List Frame) → lowest_first (fs ++ gs) ≡ lowest_first gs ++ lowest_first fs
lowest_first-append fs gs = ap numbers (reverse-append fs gs) ∙ map-append number (reverse gs) (reverse fs)

lowest_first-cons : (f : Frame) (fs : List Frame) → lowest_first (f ∷ fs) ≡ lowest_first fs ++ f.0 ∷ []
lowest_first-cons f fs = lowest_first-append (f ∷ []) fs

pub length-lowest_first : (fs : List Frame) → length (lowest_first fs) ≡ length fs
length-lowest_first fs = length-map (reverse fs) number ∙ length-reverse fs

-- the list in two parts
parts : (k : ℕ) (fs : List Frame) → lowest_first fs ≡ lowest_first (drop k fs) ++ lowest_first (take k fs)
parts k fs = ap lowest_first (sym (take-append-drop k fs)) ∙ lowest_first-append (take k fs) (drop k fs)

length_part : (k n : ℕ) (fs : List Frame) → k + n ≡ length fs → length (lowest_first (drop k fs)) ≡ n
length_part k n fs h = omega (arith, length-lowest_first (drop k fs), length-drop k fs)

-- the last frames of the list are the lowest
pub lowest_first-drop : (k n : ℕ) (fs : List Frame)
    → k + n ≡ length fs
    → lowest_first (drop k fs) ≡ take n (lowest_first fs)
lowest_first-drop k n fs h =
    sym
    (ap (take n) (parts k fs)
    ∙ take_at (lowest_first (drop k fs)) (lowest_first (take k fs)) n (length_part k n fs h))

pub lowest_first-take : (k n : ℕ) (fs : List Frame)
    → k + n ≡ length fs
    → lowest_first (take k fs) ≡ drop n (lowest_first fs)
lowest_first-take k n fs h =
    sym
    (ap (drop n) (parts k fs)
    ∙ drop_at (lowest_first (drop k fs)) (lowest_first (take k fs)) n (length_part k n fs h))

-- what holds of each frame of the list holds of each frame as it is seen, and the other way round
pub all_seen : (P : ℕ → Type 0) (fs : List Frame) → All (λ (f : Frame). P f.0) fs → All P (lowest_first fs)
all_seen P fs all =
    All-map P number (reverse fs)
    (All-permutation (λ (f : Frame). P f.0) fs (reverse fs) (IsPermutation-reverse fs) all)

pub all_kept : (P : ℕ → Type 0) (fs : List Frame) → All P (numbers fs) → All (λ (f : Frame). P f.0) fs
all_kept P fs all k d l = rw (sym (get_or-map number fs k d 0 l)) (all k 0 (rw (length-map fs number) l))

-- a frame as it is seen
seen_at : (i : ℕ) (fs : List Frame) (d : Frame)
    → i < length fs
    → get_or (lowest_first fs) (length fs - 1 - i) 0 ≡ (get_or fs i d).0
seen_at i fs d l =
    let place : length fs - 1 - (length fs - 1 - i) ≡ i = omega arith in
    get_or-map number (reverse fs) (length fs - 1 - i) d 0 (omega (arith, length-reverse fs))
    ∙ (ap number (get_or-reverse fs (length fs - 1 - i) d (omega arith)) ∙ ap (λ k. (get_or fs k d).0) place)

-- the list falls
pub falls : (i j : ℕ) (fs : List Frame) (d : Frame)
    → IsStrictlyIncreasing (lowest_first fs)
    → i ≤ j
    → j < length fs
    → (get_or fs j d).0 ≤ (get_or fs i d).0
falls i j fs d r h l = elim (cases_eq i j) [
  | inl e ↦ rw e (omega arith)
  | inr n ↦ omega (
    arith,
    seen_at i fs d (omega arith),
    seen_at j fs d l,
    AllPairs-from_increasing (lowest_first fs) r (length fs - 1 - j) (length fs - 1 - i) 0 (omega arith)
        (omega (arith, length-lowest_first fs)),
  )
]

-- a frame between lower and higher ones
given-between : (f : ℕ) (xs ys : Pool) → All (λ g. g ≤ f) xs → All (λ g. f < g) ys → given f (xs ++ ys) ≡ xs ++ f ∷ ys
given-between f [] [] low high = refl
given-between f [] (y ∷ ys) low high = given-front f y ys (All-head (λ g. f < g) y ys high)
given-between f (x ∷ xs) ys low high =
    given-behind f x (xs ++ ys) (All-head (λ g. g ≤ f) x xs low)
    ∙ ap (λ q. x ∷ q) (given-between f xs ys (All-tail (λ g. g ≤ f) x xs low) high)

-- the place of a frame: those before it are higher, and those from it on aren't
abbrev pub IsPlace : ℕ → ℕ → List Frame → Type 0
IsPlace k f fs =
    AllWithin (λ (g : Frame). ltb f g.0 ≡ true) fs 0 k × AllWithin (λ (g : Frame). ltb f g.0 ≡ false) fs k (length fs)

-- a frame that is put at its place is given to the pool
pub lowest_first-insert : (k : ℕ) (f : Frame) (fs : List Frame)
    → k ≤ length fs
    → IsPlace k f.0 fs
    → lowest_first (take k fs ++ f ∷ drop k fs) ≡ given f.0 (lowest_first fs)
lowest_first-insert k f fs l place =
    let high : All (λ g. f.0 < g) (lowest_first (take k fs)) =
    all_seen (λ g. f.0 < g) (take k fs)
    (λ i d h. rw (get_or-take k fs i d (omega (arith, length-take-le k fs l)))
    (ltb-true f.0 (get_or fs i d).0 (place.0 i d (omega arith) (omega (arith, length-take-le k fs l))))) in
    let low : All (λ g. g ≤ f.0) (lowest_first (drop k fs)) =
    all_seen (λ g. g ≤ f.0) (drop k fs)
    (λ i d h. rw (get_or-drop k fs i d)
    (ltb-false f.0 (get_or fs (k + i) d).0
    (place.1 (k + i) d (omega arith) (omega (arith, length-drop k fs))))) in
    let left : lowest_first (take k fs ++ f ∷ drop k fs) ≡ lowest_first (drop k fs) ++ f.0 ∷ lowest_first (take k fs) =
    lowest_first-append (take k fs) (f ∷ drop k fs)
    ∙ (ap (λ q. q ++ lowest_first (take k fs)) (lowest_first-cons f (drop k fs))
    ∙ append_assoc (lowest_first (drop k fs)) (f.0 ∷ []) (lowest_first (take k fs))) in
    left
    ∙ sym
    (ap (given f.0) (parts k fs)
    ∙ given-between f.0 (lowest_first (drop k fs)) (lowest_first (take k fs)) low high)
