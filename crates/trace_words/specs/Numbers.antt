-- Numbers as a trace writes them (profile).
use Rattle.std.specs.Prelude.{ℕ, ◌+◌, ◌-◌, ◌*◌, ◌^◌, Bool, false, ◌&&◌, ◌||◌, nat_lt, nat_le, ◌==◌, List, [], ◌∷◌, length, drop, nat_eq, codes, Option, Some, None, if◌then◌else◌}
use Rattle.std.specs.List.{list_all, starts_with}

-- `0` to `9`
abbrev pub is_decimal_digit : ℕ → Bool
is_decimal_digit byte = nat_le 48 byte && nat_le byte 57

-- `0` to `9` and `a` to `f`
abbrev pub is_hexadecimal_digit : ℕ → Bool
is_hexadecimal_digit byte = is_decimal_digit byte || (nat_le 97 byte && nat_le byte 102)

-- what a digit counts: 0 to 9, and 10 to 15 for the letters
abbrev pub digit_of : ℕ → ℕ
digit_of byte = if nat_le byte 57 then byte - 48 else byte - 87

-- the value of digits in a base: each counts by the power of its place
abbrev pub value_of : ℕ → List ℕ → ℕ
value_of base [] = 0
value_of base (digit ∷ digits) = digit_of digit * base ^ length digits + value_of base digits

-- decimal digits, of which the first isn't 0 unless it is the only one
abbrev pub is_decimal : List ℕ → Bool
is_decimal [] = false
is_decimal (digit ∷ digits) =
    (nat_lt 48 digit || length digits == 0) && list_all is_decimal_digit (digit ∷ digits)

-- `0x` and 1 to 16 hexadecimal digits
abbrev pub is_hexadecimal : List ℕ → Bool
is_hexadecimal word =
    (starts_with nat_eq word (codes "0x") && (nat_le 3 (length word) && nat_le (length word) 18))
    && list_all is_hexadecimal_digit (drop 2 word)

-- a value of 64 bits
abbrev pub in_64_bits : ℕ → Option ℕ
in_64_bits value = if nat_lt value (2 ^ 64) then Some value else None

-- the number that a word is in decimal
abbrev pub decimal_of : List ℕ → Option ℕ
decimal_of word = if is_decimal word then in_64_bits (value_of 10 word) else None

-- the number that a word is
unfoldable pub number_of : List ℕ → Option ℕ
number_of word =
    if is_decimal word then in_64_bits (value_of 10 word)
    else (if is_hexadecimal word then in_64_bits (value_of 16 (drop 2 word)) else None)
