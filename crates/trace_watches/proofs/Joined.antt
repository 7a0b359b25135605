-- The bytes of lists of lines, joined.
use Rattle.std.proofs.Common.{◌≡◌, refl, ◌∙◌, sym, ap, arith, ℕ, ◌+◌, ◌-◌, ◌++◌, append_assoc, List, [], ◌∷◌, drop, length, length-drop, map, take}
use Rattle.std.proofs.lemmas.List.{drop-map, take-map, take_all}
use Rattle.trace_check.specs.Records.{bytes_of}
use Rattle.trace_watches.specs.Watched.{others}

bytes_of-append : (front rest : List (List ℕ)) → bytes_of (front ++ rest) ≡ bytes_of front ++ bytes_of rest
bytes_of-append [] rest = refl
bytes_of-append (line ∷ front) rest =
    ap (λ t. (line ++ 10 ∷ []) ++ t) (bytes_of-append front rest)
    ∙ sym (append_assoc (line ++ 10 ∷ []) (bytes_of front) (bytes_of rest))

bytes_of_three : (front others last : List (List ℕ))
    → (bytes_of front ++ bytes_of others) ++ bytes_of last ≡ bytes_of (front ++ others ++ last)
bytes_of_three front others last =
    ap (λ t. t ++ bytes_of last) (sym (bytes_of-append front others))
    ∙ sym (bytes_of-append (front ++ others) last)

-- all that is left of a list
rest_is : {X : Type 0} (xs : List X) (n : ℕ) → take (length xs - n) (drop n xs) ≡ drop n xs
rest_is xs n = take_all (length xs - n) (drop n xs) (omega (arith, length-drop n xs))

-- a text to which others and a query were added, by the lines as code holds them
pub text_is : {X : Type 0} (now : X → List ℕ) (xs : List X) (place : ℕ) (step query first second third : List ℕ)
    → first ≡ bytes_of (map now (take (place + 1) xs))
    → second
    ≡ first
    ++ bytes_of
    (others step (map now (take place xs))
    (map now (take (length xs - (place + 1)) (drop (place + 1) xs))))
    → third ≡ second ++ bytes_of (query ∷ [])
    → third
    ≡ bytes_of
    (take (place + 1) (map now xs) ++ others step (take place (map now xs)) (drop (place + 1) (map now xs))
    ++ query ∷ [])
text_is now xs place step query first second third e f g =
    let front = map now (take (place + 1) xs) in
    let before = map now (take place xs) in
    let rest = map now (drop (place + 1) xs) in
    g
    ∙ ap (λ t. t ++ bytes_of (query ∷ []))
    (f ∙ ap (λ ys. first ++ bytes_of (others step before (map now ys))) (rest_is xs (place + 1))
    ∙ ap (λ t. t ++ bytes_of (others step before rest)) e)
    ∙ bytes_of_three front (others step before rest) (query ∷ [])
    ∙ ap (λ t. bytes_of (t ++ others step before rest ++ query ∷ [])) (sym (take-map now (place + 1) xs))
    ∙ ap (λ t. bytes_of (take (place + 1) (map now xs) ++ others step t rest ++ query ∷ []))
    (sym (take-map now place xs))
    ∙ ap
    (λ t. bytes_of (take (place + 1) (map now xs) ++ others step (take place (map now xs)) t ++ query ∷ []))
    (sym (drop-map now (place + 1) xs))
