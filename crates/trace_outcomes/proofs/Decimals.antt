-- Numbers that are written in decimal are read as themselves.
use Rattle.std.proofs.Common.{◌≡◌, ℕ, ◌+◌, ◌*◌, ◌/◌, ◌%◌, ◌^◌, ◌<◌, ◌≤◌, ◌==◌, ◌&&◌, ◌||◌, nat_lt, Bool, true, false, List, [], ◌∷◌, ◌++◌, length, get_or, refl, arith, sym, ap, ◌∙◌, Some}
use Rattle.std.specs.Fmt.{decimal}
use Rattle.std.specs.List.{list_all}
use Rattle.std.proofs.Math.Nat.{mul_assoc, add-mul, mul-one, one-mul, pow-zero, pow-suc}
use Rattle.std.proofs.lemmas.Bool.Decides.{nat_tests}
use Rattle.std.proofs.lemmas.Fmt.{decimal_by_steps, decimal_digit, decimal_nonempty, first_decimal}
use Rattle.std.proofs.lemmas.Nat.{pow-add, div-add-mod', mod_below}
use Rattle.std.proofs.lemmas.List.{length-append}
use Rattle.std.proofs.lemmas.List.Folds.{list_all-append}
use Rattle.page_state.proofs.Cases.{by_lt}
use Rattle.trace_words.specs.Numbers.{decimal_of, digit_of, in_64_bits, is_decimal, is_decimal_digit, value_of}

value_of-append : (base : ℕ) (xs ys : List ℕ)
    → value_of base (xs ++ ys) ≡ value_of base xs * base ^ length ys + value_of base ys
value_of-append base [] ys = omega arith
value_of-append base (x ∷ xs) ys =
    let inner = value_of-append base xs ys in
    let power : base ^ length (xs ++ ys) ≡ base ^ length xs * base ^ length ys =
    ap (λ n. base ^ n) (length-append xs ys) ∙ pow-add base (length xs) (length ys) in
    let first : digit_of x * base ^ length (xs ++ ys) ≡ digit_of x * base ^ length xs * base ^ length ys =
    ap (λ n. digit_of x * n) power ∙ sym (mul_assoc (digit_of x) (base ^ length xs) (base ^ length ys)) in
    let all : (digit_of x * base ^ length xs + value_of base xs) * base ^ length ys ≡ digit_of x * base ^ length xs * base ^ length ys + value_of base xs * base ^ length ys =
    add-mul (digit_of x * base ^ length xs) (value_of base xs) (base ^ length ys) in
    omega arith

pow_one : (n : ℕ) → n ^ 1 ≡ n
pow_one n = pow-suc n 0 ∙ ap (λ m. m * n) (pow-zero n) ∙ one-mul n

value_of-last : (base : ℕ) (xs : List ℕ) (c : ℕ) → value_of base (xs ++ (c ∷ [])) ≡ value_of base xs * base + digit_of c
value_of-last base xs c =
    let last : value_of base xs * base ^ 1 + (digit_of c * base ^ 0 + 0) ≡ value_of base xs * base + digit_of c =
    simp (pow-zero, pow_one, mul-one) (omega arith) in
    value_of-append base xs (c ∷ []) ∙ last

value_of-one : (base c : ℕ) → value_of base (c ∷ []) ≡ digit_of c
value_of-one base c = simp (pow-zero, mul-one) (omega arith)

digit_counts : (d : ℕ) → d < 10 → digit_of (48 + d) ≡ d
digit_counts d h = grind (arith, nat_tests)

digit_passes : (d : ℕ) → d < 10 → is_decimal_digit (48 + d) ≡ true
digit_passes d h = grind (arith, nat_tests)

-- digits that are read as a number
pub record IsSpelled (n : ℕ) (ds : List ℕ) : Type 0 where
  pub tests : list_all is_decimal_digit ds ≡ true
  pub value : value_of 10 ds ≡ n

one_digit : (n : ℕ) → n < 10 → IsSpelled n ((48 + n) ∷ [])
one_digit n h =
    record { tests = ap (λ b. b && true) (digit_passes n h); value = value_of-one 10 (48 + n) ∙ digit_counts n h }

more_digits : (n : ℕ) (ds : List ℕ) → 10 ≤ n → IsSpelled (n / 10) ds → IsSpelled n (ds ++ ((48 + n % 10) ∷ []))
more_digits n ds h s =
    let few : n % 10 < 10 = mod_below n 10 (omega arith) in
    let whole : n / 10 * 10 + n % 10 ≡ n = div-add-mod' n 10 in
    record {
      tests = list_all-append is_decimal_digit ds ((48 + n % 10) ∷ []) ∙ rw (s.tests, digit_passes (n % 10) few) refl;
      value = value_of-last 10 ds (48 + n % 10) ∙ rw (s.value, digit_counts (n % 10) few) whole;
    }

pub spelled : (n : ℕ) → n < 2 ^ 64 → IsSpelled n (decimal n)
spelled n h = decimal_by_steps IsSpelled one_digit more_digits n h

or_true : (b : Bool) → (b || true) ≡ true
or_true true = refl
or_true false = refl

zero_alone : (n : ℕ) → n < 1 → length (decimal n) ≡ 1
zero_alone n h = ap length (decimal_digit n (omega (arith, h)))

decimal_test : (n : ℕ) (ds : List ℕ)
    → IsSpelled n ds
    → 0 < length ds
    → (0 < n → 48 < get_or ds 0 0)
    → (n < 1 → length ds ≡ 1)
    → is_decimal ds ≡ true
decimal_test n [] s some first alone = absurd (omega (arith, some))
decimal_test n (d ∷ ds) s some first alone = by_lt 0 n
    (λ more. let above : 48 < d = first more in
    let high : nat_lt 48 d ≡ true = grind (arith, nat_tests) in
    rw (s.tests, high) refl)
    (λ none. let one : length ds ≡ 0 = omega (arith, alone (omega (arith, none))) in
    let single : (length ds == 0) ≡ true = rw one refl in
    rw (s.tests, single) (ap (λ b. b && true) (or_true (nat_lt 48 d))))

fits : (n : ℕ) → n < 2 ^ 64 → in_64_bits n ≡ Some n
fits n h = grind (arith, nat_tests)

pub decimal_is : (n : ℕ) → n < 2 ^ 64 → decimal_of (decimal n) ≡ Some n
decimal_is n h =
    let s = spelled n h in
    rw (decimal_test n (decimal n) s (decimal_nonempty n h) (λ more. first_decimal n more h) (zero_alone n), s.value)
    (fits n h)
