-- Lists that are made number by number.
use Rattle.std.proofs.Common.{◌≡◌, ℕ, suc, ◌+◌, ◌<◌, ◌≤◌, List, [], ◌∷◌, ◌++◌, Option, None, length, map, take, get_or, ap, refl, sym, ◌∙◌, arith}
use Rattle.std.specs.Prelude.{nat_lt, if◌then◌else◌}
use Rattle.std.specs.List.{range_with_len}
use Rattle.std.proofs.lemmas.Bool.Decides.{nat_tests}
use Rattle.std.proofs.lemmas.List.{get_or_past, map_push}
use Rattle.std.proofs.lemmas.List.FromFn.{get_or-map-range_with_len, length-map-range_with_len, map-range_with_len_more}
use Rattle.std.proofs.Math.Seq.{take-suc}
use Rattle.page_state.proofs.Cases.{by_test}
use Rattle.page_state.proofs.Common.{same2}

-- what is made of each member is seen as what it says, with one member more
pub seen_more : {A B C : Type 0} (seen : B → C) (says : A → C) (xs : List A) (ys : List B) (i : ℕ) (d : A) (made : B)
    → i < length xs
    → map seen ys ≡ map says (take i xs)
    → seen made ≡ says (get_or xs i d)
    → map seen (ys ++ made ∷ []) ≡ map says (take (i + 1) xs)
seen_more {A} {B} {C} seen says xs ys i d made less same one =
    let next : i + 1 ≡ suc i = omega arith in
    map_push seen ys made ∙ same2 (λ (gs : List C) (g : C). gs ++ g ∷ []) same one
    ∙ sym (map_push says (take i xs) (get_or xs i d)) ∙ ap (map says) (sym (take-suc xs i d less))
    ∙ ap (λ (n : ℕ). map says (take n xs)) (sym next)

-- what is made of each number is seen as what it says, with one number more
pub numbered_more : {B C : Type 0} (seen : B → C) (says : ℕ → C) (ys : List B) (i : ℕ) (made : B)
    → map seen ys ≡ map says (range_with_len 0 i)
    → seen made ≡ says i
    → map seen (ys ++ made ∷ []) ≡ map says (range_with_len 0 (i + 1))
numbered_more {B} {C} seen says ys i made same one =
    let here : 0 + i ≡ i = omega arith in
    map_push seen ys made ∙ same2 (λ (gs : List C) (g : C). gs ++ g ∷ []) same one
    ∙ sym (map-range_with_len_more says 0 i i here)

-- a list of a number's first values has those, and none past its end
pub by_numbers : {X : Type 0} (f : ℕ → X) (d : X) (n i : ℕ)
    → get_or (map f (range_with_len 0 n)) i d ≡ (if nat_lt i n then f i else d)
by_numbers f d n i = by_test (nat_lt i n)
    (λ t. let l : i < n = grind (arith, nat_tests) in
    let here : 0 + i ≡ i = omega arith in
    get_or-map-range_with_len f 0 n i i d l here ∙ sym (rw t refl))
    (λ t. let l : n ≤ i = grind (arith, nat_tests) in
    get_or_past (map f (range_with_len 0 n)) i d (rw (length-map-range_with_len f 0 n) l) ∙ sym (rw t refl))

pub by_range : {X : Type 0} (f : ℕ → Option X) (n i : ℕ)
    → get_or (map f (range_with_len 0 n)) i None ≡ (if nat_lt i n then f i else None)
by_range f n i = by_numbers f None n i
