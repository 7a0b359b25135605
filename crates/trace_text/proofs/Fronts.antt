-- Fronts of what is written.
use Rattle.std.proofs.Common.{◌≡◌, ℕ, zero, suc, ◌+◌, ◌-◌, arith, refl, ap, ◌∙◌, subst, sym, List, [], ◌∷◌, ◌++◌, length, take, drop, Option, Some, None}
use Rattle.std.proofs.lemmas.List.{length-drop, take_all}
use Rattle.std.specs.Io.KnownBytes.{Keeps, Appends}
use Rattle.trace_reader.proofs.KnownBytes.{appends_both}

front_none : (k : ℕ) (xs : List ℕ) → xs ≡ [] → take k xs ≡ xs
front_none zero [] e = refl
front_none (suc k) [] e = refl
front_none k (x ∷ xs) e = absurd (let h = e in cc)

take_both : (xs : List ℕ) (n m : ℕ) → take (n + m) xs ≡ take n xs ++ take m (drop n xs)
take_both xs zero m = ap (λ k. take k xs) (let z : 0 + m ≡ m = omega arith in z)
take_both [] (suc n) m = front_none (suc n + m) [] refl ∙ sym (front_none m [] refl)
take_both (x ∷ xs) (suc n) m =
    ap (λ k. take k (x ∷ xs)) (let z : suc n + m ≡ suc (n + m) = omega arith in z)
    ∙ ap (λ ls. x ∷ ls) (take_both xs n m)

-- a front, and a front of what is behind it
pub appends_front : (a b c : Option (List ℕ)) (bytes : List ℕ) (n m : ℕ)
    → Appends a b (take n bytes)
    → Appends b c (take m (drop n bytes))
    → Appends a c (take (n + m) bytes)
appends_front a b c bytes n m h k =
    subst (Appends a c) (sym (take_both bytes n m)) (appends_both a b c (take n bytes) (take m (drop n bytes)) h k)

pub appends_keeps : (a b c : Option (List ℕ)) (bs : List ℕ) → Appends a b bs → Keeps b c → Appends a c bs
appends_keeps None b c bs h k = tt
appends_keeps (Some xs) None c bs h k = absurd h
appends_keeps (Some xs) (Some ys) None bs h k = absurd k
appends_keeps (Some xs) (Some ys) (Some zs) bs h k = k ∙ h

-- all of what is behind a front
pub whole_rest : (xs : List ℕ) (n : ℕ) → take (length xs - n) (drop n xs) ≡ drop n xs
whole_rest xs n = take_all (length xs - n) (drop n xs) (omega (arith, length-drop n xs))
