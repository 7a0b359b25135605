-- Numbers that are written, and read again.
use Rattle.std.proofs.Common.{◌≡◌, ℕ, zero, suc, ◌+◌, ◌*◌, ◌/◌, ◌%◌, ◌^◌, ◌<◌, ◌≤◌, ◌==◌, Bool, true, false, ◌&&◌, List, [], ◌∷◌, ◌++◌, length, get_or, refl, arith, sym, ap, ◌∙◌, subst}
use Rattle.std.specs.Prelude.{if◌then◌else◌}
use Rattle.std.specs.Fmt.{digits_onto, digit_glyph}
use Rattle.std.specs.List.{list_all}
use Rattle.std.proofs.Math.Nat.{mul_assoc, add-mul, mul-one, one-mul, pow-zero, pow-suc, div-eq_of_lt, mod-eq_of_lt, div-lt_iff_lt-mul}
use Rattle.std.proofs.lemmas.Bool.Decides.{nat_tests}
use Rattle.std.proofs.lemmas.Nat.{pow-add, div-add-mod', mod_below, le-div}
use Rattle.std.proofs.lemmas.List.{append_assoc, length-append}
use Rattle.std.proofs.lemmas.List.Folds.{list_all-append}
use Rattle.page_state.proofs.Cases.{by_lt}
use Rattle.trace_words.specs.Numbers.{digit_of, value_of}

-- the value of digits behind others
value_of-append : (base : ℕ) (xs ys : List ℕ)
    → value_of base (xs ++ ys) ≡ value_of base xs * base ^ length ys + value_of base ys
value_of-append base [] ys = omega arith
value_of-append base (x ∷ xs) ys =
    let inner = value_of-append base xs ys in
    let power : base ^ length (xs ++ ys) ≡ base ^ length xs * base ^ length ys =
    ap (λ n. base ^ n) (length-append xs ys) ∙ pow-add base (length xs) (length ys) in
    let first : digit_of x * base ^ length (xs ++ ys) ≡ digit_of x * base ^ length xs * base ^ length ys =
    ap (λ n. digit_of x * n) power ∙ sym (mul_assoc (digit_of x) (base ^ length xs) (base ^ length ys)) in
    let all : (digit_of x * base ^ length xs + value_of base xs) * base ^ length ys ≡ digit_of x * base ^ length xs * base ^ length ys + value_of base xs * base ^ length ys =
    add-mul (digit_of x * base ^ length xs) (value_of base xs) (base ^ length ys) in
    omega arith

pow_one : (n : ℕ) → n ^ 1 ≡ n
pow_one n = pow-suc n 0 ∙ ap (λ m. m * n) (pow-zero n) ∙ one-mul n

-- one more digit behind others
value_of-last : (base : ℕ) (xs : List ℕ) (c : ℕ) → value_of base (xs ++ (c ∷ [])) ≡ value_of base xs * base + digit_of c
value_of-last base xs c =
    let last : value_of base xs * base ^ 1 + (digit_of c * base ^ 0 + 0) ≡ value_of base xs * base + digit_of c =
    simp (pow-zero, pow_one, mul-one) (omega arith) in
    value_of-append base xs (c ∷ []) ∙ last

value_of-one : (base c : ℕ) → value_of base (c ∷ []) ≡ digit_of c
value_of-one base c = simp (pow-zero, mul-one) (omega arith)

-- a digit counts what it was written for
digit_of-glyph : (d : ℕ) → d < 16 → digit_of (digit_glyph false d) ≡ d
digit_of-glyph d h = by_lt d 10 (λ less. grind (arith, nat_tests)) (λ more. grind (arith, nat_tests))

glyph_above : (d : ℕ) → 0 < d → 48 < digit_glyph false d
glyph_above d h = by_lt d 10 (λ less. grind (arith, nat_tests)) (λ more. grind (arith, nat_tests))

-- what is known of the digits of a number: each passes a test, and read again they are the number
pub record IsSpelled (base : ℕ) (test : ℕ → Bool) (n k : ℕ) (ds : List ℕ) : Type 0 where
  pub some : 0 < length ds
  pub short : length ds ≤ k
  pub tests : list_all test ds ≡ true
  pub value : value_of base ds ≡ n
  pub first : 0 < n → 48 < get_or ds 0 0
  pub alone : n ≡ 0 → length ds ≡ 1

first_stays : (xs ys : List ℕ) → 0 < length xs → get_or (xs ++ ys) 0 0 ≡ get_or xs 0 0
first_stays [] ys h = absurd (omega (arith, h))
first_stays (x ∷ xs) ys h = refl

not_zero : (n : ℕ) → 0 < n → (n == 0) ≡ false
not_zero n h = grind (arith, nat_tests)

module _ (base : ℕ) (low : 2 ≤ base) (high : base ≤ 16) (test : ℕ → Bool)
    (told : (d : ℕ) → d < base → test (digit_glyph false d) ≡ true) where
  one_digit : (n k : ℕ) → n < base → IsSpelled base test n (suc k) (digit_glyph false n ∷ [])
  one_digit n k h = record {
    some = omega arith;
    short = omega arith;
    tests = ap (λ b. b && true) (told n h);
    value = value_of-one base (digit_glyph false n) ∙ digit_of-glyph n (omega arith);
    first = λ p. glyph_above n p;
    alone = λ e. refl;
  }

  div_some : (n : ℕ) → base ≤ n → 0 < n / base
  div_some n h = le-div 1 n base (omega (arith, low)) (omega (arith, h))

  more_digits : (n k : ℕ) (ds : List ℕ)
      → base ≤ n
      → IsSpelled base test (n / base) k ds
      → IsSpelled base test n (suc k) (ds ++ (digit_glyph false (n % base) ∷ []))
  more_digits n k ds h s =
      let few : n % base < base = mod_below n base (omega (arith, low)) in
      let last : digit_of (digit_glyph false (n % base)) ≡ n % base =
      digit_of-glyph (n % base) (omega (arith, few, high)) in
      let whole : n / base * base + n % base ≡ n = div-add-mod' n base in
      record {
        some = omega (arith, length-append ds (digit_glyph false (n % base) ∷ []), s.some);
        short = omega (arith, length-append ds (digit_glyph false (n % base) ∷ []), s.short);
        tests = list_all-append test ds (digit_glyph false (n % base) ∷ []) ∙ rw (s.tests, told (n % base) few) refl;
        value = value_of-last base ds (digit_glyph false (n % base)) ∙ rw (s.value, last) whole;
        first =
            λ p. subst (λ m. 48 < m) (sym (first_stays ds (digit_glyph false (n % base) ∷ []) s.some))
            (s.first (div_some n h));
        alone = λ e. absurd (omega (arith, e, h, low));
      }

  -- the digits that are written of a number
  pub record HasDigits (n k : ℕ) (acc all : List ℕ) : Type 0 where
    pub spelled_by : List ℕ
    pub spelled : IsSpelled base test n k spelled_by
    pub whole : all ≡ spelled_by ++ acc

  pub digits_of_all : (k fuel n : ℕ) (acc : List ℕ)
      → k ≤ fuel
      → n < base ^ suc k
      → HasDigits n (suc k) acc (digits_onto (suc fuel) base false n acc)
  digits_of_all zero fuel n acc le h =
      let small : n < base = subst (λ m. n < m) (pow_one base) h in
      let none : n / base ≡ 0 = div-eq_of_lt small in
      let rest : n % base ≡ n = mod-eq_of_lt small in
      record { spelled_by = digit_glyph false n ∷ []; spelled = one_digit n 0 small; whole = rw (none, rest) refl }
  digits_of_all (suc k) zero n acc le h = absurd (omega (arith, le))
  digits_of_all (suc k) (suc fuel) n acc le h = by_lt n base
      (λ small.
      let none : n / base ≡ 0 = div-eq_of_lt small in
      let rest : n % base ≡ n = mod-eq_of_lt small in
      record {
        spelled_by = digit_glyph false n
            ∷ [];
        spelled = one_digit n (suc k) small;
        whole = rw (none, rest) refl;
      })
      (λ large.
      let fewer : n / base < base ^ suc k =
      (div-lt_iff_lt-mul (omega (arith, low))).1 (subst (λ m. n < m) (pow-suc base (suc k)) h) in
      let inner = digits_of_all k fuel (n / base) (digit_glyph false (n % base) ∷ acc) (omega (arith, le)) fewer in
      let some : (n / base == 0) ≡ false = not_zero (n / base) (div_some n large) in
      record {
        spelled_by = inner.spelled_by ++ (digit_glyph false (n % base) ∷ []);
        spelled = more_digits n (suc k) inner.spelled_by large inner.spelled;
        whole =
            ap
            (λ b. if b then digit_glyph false (n % base) ∷ acc
            else digits_onto (suc fuel) base false (n / base) (digit_glyph false (n % base) ∷ acc)) some
            ∙ inner.whole ∙ sym (append_assoc inner.spelled_by (digit_glyph false (n % base) ∷ []) acc);
      })
