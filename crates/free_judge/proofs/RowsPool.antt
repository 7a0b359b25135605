-- The root and the free frames that a pool gets from its frames: each frame once.
use Rattle.std.proofs.Common.{◌≡◌, ℕ, ◌+◌, ◌≤◌, ◌<◌, List, [], ◌∷◌, ◌++◌, filter, length, Option, Some, None, refl, ap, sym, ◌∙◌, arith, inl, inr}
use Rattle.std.specs.Prelude.{Bool, true, false, ◌==◌, ◌⊎◌, not, find, cond}
use Rattle.std.proofs.lemmas.Bool.Decides.{nat_tests}
use Rattle.std.proofs.lemmas.List.Sums.{sum_by-append}
use Rattle.page_state.proofs.Common.{both, eq-same, eq-made, eq-other}
use Rattle.page_state.proofs.Counts.{count_next}
use Rattle.page_state.specs.Counts.{frame_count, is_one}
use Rattle.page_state.specs.Map.{is_within}
use Rattle.page_state.specs.Trees.{frames_from}
use Rattle.reference_model.proofs.conditions.PoolSteps.{count-frames}
use Rattle.reference_model.specs.help.Conditions.{one}
use Rattle.reference_model.specs.model.Owner.{is_frame}
use Rattle.free_judge.specs.PoolByRows.{first_of, frame_or, free_of, only, root_of, without_it}

-- how often a list of those that pass a test has a frame

same-count : (f g : ℕ) → g ≡ f → is_one g f ≡ 1
same-count f g e = ap one (eq-made g f e)

other-count : (f g : ℕ) → (g ≡ f → ⊥) → is_one g f ≡ 0
other-count f g h = ap one (eq-other g f h)

pub count-kept : (p : ℕ → Bool) (f : ℕ) (fs : List ℕ) → p f ≡ true → frame_count f (filter p fs) ≡ frame_count f fs
count-kept p f [] h = refl
count-kept p f (g ∷ gs) h = elim (both (p g)) [
  | inl t ↦
      let e : frame_count f (filter p (g ∷ gs)) ≡ frame_count f (g ∷ filter p gs) =
      ap (λ b. frame_count f (cond b (g ∷ filter p gs) (filter p gs))) t in
      let here = count_next f g (filter p gs) in
      let next = count_next f g gs in
      let rest = count-kept p f gs h in
      omega arith
  | inr t ↦
      let e : frame_count f (filter p (g ∷ gs)) ≡ frame_count f (filter p gs) =
      ap (λ b. frame_count f (cond b (g ∷ filter p gs) (filter p gs))) t in
      let next = count_next f g gs in
      let rest = count-kept p f gs h in
      let none : is_one g f ≡ 0 =
      other-count f g (λ s. let bad : false ≡ true = sym t ∙ ap p s ∙ h in cc) in
      omega arith
]

pub count-lost : (p : ℕ → Bool) (f : ℕ) (fs : List ℕ) → p f ≡ false → frame_count f (filter p fs) ≡ 0
count-lost p f [] h = refl
count-lost p f (g ∷ gs) h = elim (both (p g)) [
  | inl t ↦
      let e : frame_count f (filter p (g ∷ gs)) ≡ frame_count f (g ∷ filter p gs) =
      ap (λ b. frame_count f (cond b (g ∷ filter p gs) (filter p gs))) t in
      let here = count_next f g (filter p gs) in
      let rest = count-lost p f gs h in
      let none : is_one g f ≡ 0 =
      other-count f g (λ s. let bad : true ≡ false = sym t ∙ ap p s ∙ h in cc) in
      omega arith
  | inr t ↦
      let e : frame_count f (filter p (g ∷ gs)) ≡ frame_count f (filter p gs) =
      ap (λ b. frame_count f (cond b (g ∷ filter p gs) (filter p gs))) t in
      e ∙ count-lost p f gs h
]

in-range : (n f : ℕ) → f < n → is_within 0 n f ≡ true
in-range n f less = grind (arith, nat_tests)

-- all numbers below a bound that pass a test, which holds of none above
pub pool-count : (p : ℕ → Bool) (n f : ℕ)
    → (p f ≡ true → f < n)
    → frame_count f (filter p (frames_from 0 n)) ≡ one (p f)
pool-count p n f low = elim (both (p f)) [
  | inl t ↦ count-kept p f (frames_from 0 n) t ∙ count-frames 0 n f ∙ ap one (in-range n f (low t) ∙ sym t)
  | inr t ↦ count-lost p f (frames_from 0 n) t ∙ sym (ap one t)
]

-- the root is one of the frames

found-in : (p : ℕ → Bool) (fs : List ℕ) (r : ℕ) → find p fs ≡ Some r → (p r ≡ true) × (1 ≤ frame_count r fs)
found-in p [] r h = cc
found-in p (g ∷ gs) r h = elim (both (p g)) [
  | inl t ↦
      let e : Some g ≡ Some r = sym (ap (λ b. cond b (Some g) (find p gs)) t) ∙ h in
      let same : g ≡ r = cc in
      let next = count_next r g gs in
      let here = same-count r g same in
      (sym (ap p same) ∙ t, omega arith)
  | inr t ↦
      let e : find p gs ≡ Some r = sym (ap (λ b. cond b (Some g) (find p gs)) t) ∙ h in
      let next = count_next r g gs in
      let rest = found-in p gs r e in
      let more = rest.1 in
      (rest.0, omega arith)
]

pub found-some : (p : ℕ → Bool) (fs : List ℕ) (f : ℕ)
    → p f ≡ true
    → 1 ≤ frame_count f fs
    → (r : ℕ) × (find p fs ≡ Some r)
found-some p [] f h k = absurd (omega arith)
found-some p (g ∷ gs) f h k = elim (both (p g)) [
  | inl t ↦ (g, ap (λ b. cond b (Some g) (find p gs)) t)
  | inr t ↦
      let none : is_one g f ≡ 0 =
      other-count f g (λ s. let bad : false ≡ true = sym t ∙ ap p s ∙ h in cc) in
      let next = count_next f g gs in
      let rest = found-some p gs f h (omega arith) in
      (rest.0, ap (λ b. cond b (Some g) (find p gs)) t ∙ rest.1)
]

first-in : (fs : List ℕ) (r : ℕ) → first_of fs ≡ Some r → 1 ≤ frame_count r fs
first-in [] r h = cc
first-in (g ∷ gs) r h =
    let same : g ≡ r = cc in
    let next = count_next r g gs in
    let here = same-count r g same in
    omega arith

either-is : (o next : Option ℕ) (r : ℕ) → frame_or next o ≡ Some r → (o ≡ Some r) ⊎ (next ≡ Some r)
either-is (Some f) next r h = inl h
either-is None next r h = inr h

pub root-in : (named : Option ℕ) (fs : List ℕ) (r : ℕ) → root_of named fs ≡ Some r → 1 ≤ frame_count r fs
root-in named fs r h = elim (either-is (find (λ f. not (is_frame f named)) fs) (first_of fs) r h) [
  | inl e ↦ (found-in (λ f. not (is_frame f named)) fs r e).1
  | inr e ↦ first-in fs r e
]

some-either : (o : Option ℕ) (f : ℕ) → (r : ℕ) × (frame_or (Some f) o ≡ Some r)
some-either None f = (f, refl)
some-either (Some r) f = (r, refl)

pub root-some : (named : Option ℕ) (fs : List ℕ) (f : ℕ)
    → 1 ≤ frame_count f fs
    → (r : ℕ) × (root_of named fs ≡ Some r)
root-some named [] f h = absurd (omega arith)
root-some named (g ∷ gs) f h = some-either (find (λ f. not (is_frame f named)) (g ∷ gs)) g

-- the root isn't the named frame, if there is another
pub root-other : (n : ℕ) (fs : List ℕ) (f : ℕ)
    → (n ≡ f → ⊥)
    → 1 ≤ frame_count f fs
    → (r : ℕ)
    → root_of (Some n) fs ≡ Some r
    → n ≡ r
    → ⊥
root-other n fs f apart some r e same =
    let p : ℕ → Bool = λ f. not (n == f) in
    let passes : p f ≡ true = ap not (eq-other n f apart) in
    let found = found-some p fs f passes some in
    let at : Some found.0 ≡ Some r = sym (ap (frame_or (first_of fs)) found.1) ∙ e in
    let here : found.0 ≡ r = cc in
    let good = (found-in p fs found.0 found.1).0 in
    let bad : false ≡ true = sym (ap not (eq-made n r same)) ∙ sym (ap p here) ∙ good in
    cc

-- the root and the free frames are all of them

both-count : (f : ℕ) (xs ys : List ℕ) → frame_count f (xs ++ ys) ≡ frame_count f xs + frame_count f ys
both-count f xs ys = sum_by-append (λ g. is_one g f) xs ys

parts-count : (named : Option ℕ) (xs : List ℕ) (f : ℕ)
    → frame_count f (only named xs ++ without_it named xs) ≡ frame_count f xs
parts-count named xs f =
    let sum = both-count f (only named xs) (without_it named xs) in
    elim (both (is_frame f named)) [
      | inl t ↦
          let one-part = count-kept (λ g. is_frame g named) f xs t in
          let other = count-lost (λ g. not (is_frame g named)) f xs (ap not t) in
          omega arith
      | inr t ↦
          let one-part = count-lost (λ g. is_frame g named) f xs t in
          let other = count-kept (λ g. not (is_frame g named)) f xs (ap not t) in
          omega arith
    ]

pub all-parts : (named : Option ℕ) (root : ℕ) (fs : List ℕ)
    → frame_count root fs ≡ 1
    → (f : ℕ)
    → frame_count f (root ∷ free_of named (Some root) fs) ≡ frame_count f fs
all-parts named root fs once f =
    let next = count_next f root (free_of named (Some root) fs) in
    let parts = parts-count named (without_it (Some root) fs) f in
    elim (both (root == f)) [
      | inl t ↦
          let same : root ≡ f = eq-same root f t in
          let lost = count-lost (λ g. not (is_frame g (Some root))) f fs (ap not t) in
          let here = same-count f root same in
          let there : frame_count f fs ≡ 1 = sym (ap (λ g. frame_count g fs) same) ∙ once in
          omega arith
      | inr t ↦
          let kept = count-kept (λ g. not (is_frame g (Some root))) f fs (ap not t) in
          let here : is_one root f ≡ 0 = ap one t in
          omega arith
    ]

-- the named frame is the first free one, if it is one of them
only-first : (n : ℕ) (xs : List ℕ) → 1 ≤ frame_count n xs → (gs : List ℕ) × (only (Some n) xs ≡ n ∷ gs)
only-first n [] h = absurd (omega arith)
only-first n (g ∷ gs) h = elim (both (n == g)) [
  | inl t ↦ (
    only (Some n) gs,
    ap (λ b. cond b (g ∷ only (Some n) gs) (only (Some n) gs)) t
        ∙ ap (λ m. m ∷ only (Some n) gs) (sym (eq-same n g t)),
  )
  | inr t ↦
      let none : is_one g n ≡ 0 =
      other-count n g (λ s. let bad : true ≡ false = sym (eq-made n g (sym s)) ∙ t in cc) in
      let next = count_next n g gs in
      let rest = only-first n gs (omega arith) in
      (rest.0, ap (λ b. cond b (g ∷ only (Some n) gs) (only (Some n) gs)) t ∙ rest.1)
]

pub named-first : (n root : ℕ) (fs : List ℕ)
    → (n ≡ root → ⊥)
    → 1 ≤ frame_count n fs
    → (gs : List ℕ) × (free_of (Some n) (Some root) fs ≡ n ∷ gs)
named-first n root fs apart some =
    let others = without_it (Some root) fs in
    let kept =
    count-kept (λ g. not (is_frame g (Some root))) n fs (ap not (eq-other root n (λ e. apart (sym e)))) in
    let first = only-first n others (omega arith) in
    (first.0 ++ without_it (Some n) others, ap (λ xs. xs ++ without_it (Some n) others) first.1)

-- how many there are

filter-length : (p : ℕ → Bool) (fs : List ℕ)
    → length (filter p fs) + length (filter (λ g. not (p g)) fs) ≡ length fs
filter-length p [] = refl
filter-length p (g ∷ gs) = elim (both (p g)) [
  | inl t ↦
      let e : length (filter p (g ∷ gs)) ≡ length (g ∷ filter p gs) =
      ap (λ b. length (cond b (g ∷ filter p gs) (filter p gs))) t in
      let o : length (filter (λ g. not (p g)) (g ∷ gs)) ≡ length (filter (λ g. not (p g)) gs) =
      ap (λ b. length (cond (not b) (g ∷ filter (λ g. not (p g)) gs) (filter (λ g. not (p g)) gs))) t in
      let rest = filter-length p gs in
      omega arith
  | inr t ↦
      let e : length (filter p (g ∷ gs)) ≡ length (filter p gs) =
      ap (λ b. length (cond b (g ∷ filter p gs) (filter p gs))) t in
      let o : length (filter (λ g. not (p g)) (g ∷ gs)) ≡ length (g ∷ filter (λ g. not (p g)) gs) =
      ap (λ b. length (cond (not b) (g ∷ filter (λ g. not (p g)) gs) (filter (λ g. not (p g)) gs))) t in
      let rest = filter-length p gs in
      omega arith
]

only-length : (n : ℕ) (fs : List ℕ) → length (only (Some n) fs) ≡ frame_count n fs
only-length n [] = refl
only-length n (g ∷ gs) = elim (both (n == g)) [
  | inl t ↦
      let e : length (only (Some n) (g ∷ gs)) ≡ length (g ∷ only (Some n) gs) =
      ap (λ b. length (cond b (g ∷ only (Some n) gs) (only (Some n) gs))) t in
      let here = same-count n g (sym (eq-same n g t)) in
      let next = count_next n g gs in
      let rest = only-length n gs in
      omega arith
  | inr t ↦
      let e : length (only (Some n) (g ∷ gs)) ≡ length (only (Some n) gs) =
      ap (λ b. length (cond b (g ∷ only (Some n) gs) (only (Some n) gs))) t in
      let none : is_one g n ≡ 0 =
      other-count n g (λ s. let bad : true ≡ false = sym (eq-made n g (sym s)) ∙ t in cc) in
      let next = count_next n g gs in
      let rest = only-length n gs in
      omega arith
]

zero-plus : (n : ℕ) → n ≡ 0 + n
zero-plus n = omega arith

both-length : (xs ys : List ℕ) → length (xs ++ ys) ≡ length xs + length ys
both-length [] ys = zero-plus (length ys)
both-length (x ∷ xs) ys = let rest = both-length xs ys in omega arith

pub free-length : (named : Option ℕ) (root : ℕ) (fs : List ℕ)
    → frame_count root fs ≡ 1
    → length (free_of named (Some root) fs) + 1 ≡ length fs
free-length named root fs once =
    let others = without_it (Some root) fs in
    let sum = both-length (only named others) (without_it named others) in
    let parts = filter-length (λ g. is_frame g named) others in
    let apart = filter-length (λ g. is_frame g (Some root)) fs in
    let here = only-length root fs in
    omega arith
