-- Lists of texts that are written one after another.
use Rattle.std.proofs.Common.{◌≡◌, ℕ, zero, suc, arith, ◌+◌, ◌<◌, List, [], ◌∷◌, ◌++◌, length, get_or, take, ◌≤◌, refl, sym, ap, ◌∙◌, add-one}
use Rattle.std.specs.List.{flat_map}
use Rattle.std.proofs.lemmas.Grind.{flat_map-append}
use Rattle.std.proofs.lemmas.List.{append-nil, append_assoc}
use Rattle.std.proofs.Math.Seq.{take-suc}

-- one more
pub flat_map-more : {X : Type 0} (f : X → List ℕ) (xs : List X) (i : ℕ) (d : X)
    → i < length xs
    → flat_map f (take (i + 1) xs) ≡ flat_map f (take i xs) ++ f (get_or xs i d)
flat_map-more f xs i d h =
    let cut : take (i + 1) xs ≡ take i xs ++ (get_or xs i d ∷ []) = rw add-one (take-suc xs i d h) in
    ap (flat_map f) cut ∙ flat_map-append f (take i xs) (get_or xs i d ∷ [])
    ∙ ap (λ t. flat_map f (take i xs) ++ t) (append-nil (f (get_or xs i d)))

-- a text that grows by the one at a place
pub text_further : {X : Type 0} (f : X → List ℕ) (xs : List X) (i : ℕ) (d : X) (begun now new : List ℕ)
    → i < length xs
    → now ≡ begun ++ flat_map f (take i xs)
    → new ≡ now ++ f (get_or xs i d)
    → new ≡ begun ++ flat_map f (take (i + 1) xs)
text_further f xs i d begun now new h e more =
    more
    ∙ (ap (λ t. t ++ f (get_or xs i d)) e
    ∙ (append_assoc begun (flat_map f (take i xs)) (f (get_or xs i d))
    ∙ ap (λ t. begun ++ t) (sym (flat_map-more f xs i d h))))

-- a text that grows by one more
pub text_more : {X : Type 0} (f : X → List ℕ) (xs : List X) (i : ℕ) (x : X) (begun now new : List ℕ)
    → i < length xs
    → x ≡ get_or xs i x
    → now ≡ begun ++ flat_map f (take i xs)
    → new ≡ now ++ f x
    → new ≡ begun ++ flat_map f (take (i + 1) xs)
text_more f xs i x begun now new h at e more =
    let last : f x ≡ f (get_or xs i x) = ap f at in
    more ∙ ap (λ t. t ++ f x) e ∙ append_assoc begun (flat_map f (take i xs)) (f x)
    ∙ ap (λ t. begun ++ t) (ap (λ t. flat_map f (take i xs) ++ t) last ∙ sym (flat_map-more f xs i x h))

whole : {X : Type 0} (xs : List X) (i : ℕ) → length xs ≤ i → take i xs ≡ xs
whole [] zero h = refl
whole [] (suc i) h = refl
whole (x ∷ xs) zero h = absurd (omega (arith, h))
whole (x ∷ xs) (suc i) h = ap (λ t. x ∷ t) (whole xs i (omega (arith, h)))

-- and is whole at the end
pub text_whole : {X : Type 0} (f : X → List ℕ) (xs : List X) (i : ℕ) (begun now : List ℕ)
    → length xs ≤ i
    → now ≡ begun ++ flat_map f (take i xs)
    → now ≡ begun ++ flat_map f xs
text_whole f xs i begun now h e = e ∙ ap (λ t. begun ++ flat_map f t) (whole xs i h)

-- pieces that are joined from the right, from the left
pub five_pieces : (a x b y c : List ℕ) → a ++ (x ++ (b ++ (y ++ c))) ≡ a ++ x ++ b ++ y ++ c
five_pieces a x b y c = simp append_assoc refl

pub seven_pieces : (a x b y c z d : List ℕ)
    → a ++ (x ++ (b ++ (y ++ (c ++ (z ++ d))))) ≡ a ++ x ++ b ++ y ++ c ++ z ++ d
seven_pieces a x b y c z d = simp append_assoc refl

pub nine_pieces : (a x b y c z d w e : List ℕ)
    → a ++ (x ++ (b ++ (y ++ (c ++ (z ++ (d ++ (w ++ e))))))) ≡ a ++ x ++ b ++ y ++ c ++ z ++ d ++ w ++ e
nine_pieces a x b y c z d w e = simp append_assoc refl
