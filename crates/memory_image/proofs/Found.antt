-- The first element that passes a test.
use Rattle.std.proofs.Common.{◌≡◌, ℕ, ◌+◌, ◌-◌, ◌^◌, ◌<◌, ◌≤◌, Bool, true, false, List, [], ◌∷◌, All, find, Some, refl, subst, arith}
use Rattle.std.proofs.lemmas.Bool.Decides.{nat_tests}
use Rattle.std.proofs.lemmas.List.Elements.{All-head, All-tail}
use Rattle.memory_image.specs.CoreFile.{IsPlaced}
use Rattle.memory_image.specs.Pages.{has_page}
use Rattle.memory_image.specs.declared.segment.Segment.{Segment}

by_test : {P : Type 0} (b : Bool) → (b ≡ true → P) → (b ≡ false → P) → P
by_test true f g = f refl
by_test false f g = g refl

-- it passes, and has what all have
found_first : {X : Type 0} (p : X → Bool) (P : X → Type 0) (xs : List X) (y : X)
    → find p xs ≡ Some y
    → All P xs
    → (p y ≡ true) × P y
found_first p P [] y e all = cc
found_first p P (x ∷ xs) y e all = by_test (p x)
    (λ passes. let same : x ≡ y = (let there : Some x ≡ Some y = rw passes at e in cc) in
    (subst (λ z. p z ≡ true) same passes, subst P same (All-head P x xs all)))
    (λ fails. let there : find p xs ≡ Some y = rw fails at e in found_first p P xs y there (All-tail P x xs all))

-- a segment that has all of a page begins before it
pub begins_before : (first : ℕ) (s : Segment) → has_page first s ≡ true → s.address ≤ first
begins_before first s e = grind (arith, nat_tests)

pub place_fits : (first : ℕ) (s : Segment) → has_page first s ≡ true → IsPlaced s → s.at + (first - s.address) < 2 ^ 64
place_fits first s e h = grind (arith, nat_tests)

pub found_page : (first : ℕ) (xs : List Segment) (s : Segment)
    → find (has_page first) xs ≡ Some s
    → All IsPlaced xs
    → (has_page first s ≡ true) × IsPlaced s
found_page first xs s e all = found_first (has_page first) IsPlaced xs s e all
