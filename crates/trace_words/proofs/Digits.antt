-- The value of digits, one digit after another.
use Rattle.std.proofs.Common.{ℕ, ◌+◌, ◌*◌, ◌^◌, ◌<◌, ◌≤◌, ◌≡◌, sym, ap, ◌∙◌, arith, List, [], ◌∷◌, ◌++◌, length, get_or, take, drop, add-one, Some, None}
use Rattle.std.proofs.Math.Nat.{mul_assoc, add-mul, one-le-pow, mul-le-mul_left, mul-one, one-mul, pow-zero, pow-suc}
use Rattle.std.proofs.Math.Seq.{take-suc}
use Rattle.std.proofs.lemmas.Bool.Decides.{nat_tests}
use Rattle.std.proofs.lemmas.Nat.{pow-add}
use Rattle.std.proofs.lemmas.List.{take-append-drop, length-append}
use Rattle.trace_words.specs.Numbers.{digit_of, value_of, in_64_bits}

-- digits behind others: those before count by the power of how many follow
pub value_of-append : (base : ℕ) (xs ys : List ℕ)
    → value_of base (xs ++ ys) ≡ value_of base xs * base ^ length ys + value_of base ys
value_of-append base [] ys = omega arith
value_of-append base (x ∷ xs) ys =
    let inner = value_of-append base xs ys in
    let power : base ^ length (xs ++ ys) ≡ base ^ length xs * base ^ length ys =
    ap (λ n. base ^ n) (length-append xs ys) ∙ pow-add base (length xs) (length ys) in
    let first : digit_of x * base ^ length (xs ++ ys) ≡ digit_of x * base ^ length xs * base ^ length ys =
    ap (λ n. digit_of x * n) power ∙ sym (mul_assoc (digit_of x) (base ^ length xs) (base ^ length ys)) in
    let all : (digit_of x * base ^ length xs + value_of base xs) * base ^ length ys ≡ digit_of x * base ^ length xs * base ^ length ys + value_of base xs * base ^ length ys =
    add-mul (digit_of x * base ^ length xs) (value_of base xs) (base ^ length ys) in
    omega arith

pow_one : (n : ℕ) → n ^ 1 ≡ n
pow_one n = pow-suc n 0 ∙ ap (λ m. m * n) (pow-zero n) ∙ one-mul n

-- one more digit
pub value_of-more : (base : ℕ) (xs : List ℕ) (i : ℕ)
    → i < length xs
    → value_of base (take (i + 1) xs) ≡ value_of base (take i xs) * base + digit_of (get_or xs i 0)
value_of-more base xs i h =
    let cut : take (i + 1) xs ≡ take i xs ++ (get_or xs i 0 ∷ []) = rw add-one (take-suc xs i 0 h) in
    let split = value_of-append base (take i xs) (get_or xs i 0 ∷ []) in
    let last : value_of base (take i xs) * base ^ 1 + (digit_of (get_or xs i 0) * base ^ 0 + 0) ≡ value_of base (take i xs) * base + digit_of (get_or xs i 0) =
    simp (pow-zero, pow_one, mul-one) (omega arith) in
    ap (value_of base) cut ∙ split ∙ last

-- a front of digits counts no more than all
pub value_of-take-le : (base : ℕ) (xs : List ℕ) (i : ℕ) → 1 ≤ base → value_of base (take i xs) ≤ value_of base xs
value_of-take-le base xs i h =
    let split = value_of-append base (take i xs) (drop i xs) in
    let all = ap (value_of base) (take-append-drop i xs) in
    let one : 1 ≤ base ^ length (drop i xs) = one-le-pow (length (drop i xs)) base h in
    let more = mul-le-mul_left (value_of base (take i xs)) one in
    omega (arith, mul-one (value_of base (take i xs)))

-- a value that 64 bits don't hold
pub in_64_bits-above : (n : ℕ) → 2 ^ 64 ≤ n → in_64_bits n ≡ None
in_64_bits-above n h = grind (arith, nat_tests)

pub above-in_64_bits : (n : ℕ) → in_64_bits n ≡ None → 2 ^ 64 ≤ n
above-in_64_bits n e = grind (arith, nat_tests)

pub below-in_64_bits : (n m : ℕ) → in_64_bits n ≡ Some m → (m ≡ n) × (n < 2 ^ 64)
below-in_64_bits n m e = grind (arith, nat_tests)

-- a front with one more digit that 64 bits don't hold: nor do they hold all
pub stops : (base value i : ℕ) (xs : List ℕ) → value ≡ value_of base (take i xs) → i < length xs → 1 ≤ base
    → in_64_bits (value * base + digit_of (get_or xs i 0)) ≡ None → in_64_bits (value_of base xs) ≡ None
stops base value i xs e h one none =
    let above = above-in_64_bits (value * base + digit_of (get_or xs i 0)) none in
    let more = value_of-more base xs i h in
    let front = value_of-take-le base xs (i + 1) one in
    let same = ap (λ n. n * base) e in
    in_64_bits-above (value_of base xs) (omega arith)

-- a front with one more digit that they hold
pub goes : (base value next i : ℕ) (xs : List ℕ) → value ≡ value_of base (take i xs) → i < length xs
    → in_64_bits (value * base + digit_of (get_or xs i 0)) ≡ Some next
    → (next ≡ value_of base (take (i + 1) xs)) × (next < 2 ^ 64)
goes base value next i xs e h some =
    let below = below-in_64_bits (value * base + digit_of (get_or xs i 0)) next some in
    let more = value_of-more base xs i h in
    let same = ap (λ n. n * base) e in
    (omega arith, omega arith)
