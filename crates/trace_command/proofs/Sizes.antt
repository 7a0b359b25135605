-- Words that say the size of a heap.
use Rattle.std.proofs.Common.{◌≡◌, ◌≢◌, ◌<◌, ◌≤◌, ◌^◌, ◌&&◌, ℕ, Bool, true, false, cond, arith, refl, Result, Ok, Err, Some, None, List, [], ◌∷◌, length, slice_index, get_or}
use Rattle.std.specs.Str.{all_ascii_digits}
use Rattle.std.specs.Str.Parse.{ParsesUnsigned, digits_value}
use Rattle.std.specs.Prelude.{nat_le, nat_lt}
use Rattle.std.proofs.lemmas.Bool.Decides.{nat_tests}
use Rattle.std.proofs.lemmas.Str.Parse.{IsNumeralModel, numerals_by_value, parse_plain, tells_all_ascii_digits}
use Rattle.trace_command.specs.Asked.{heap_size}

own : IsNumeralModel (λ ds. all_ascii_digits ds ≡ true) (digits_value 10)
own = numerals_by_value _ tells_all_ascii_digits

no_plus : (bs : List ℕ) → 48 < slice_index bs 0 → get_or bs 0 0 ≢ 43
no_plus [] big e = omega arith
no_plus (b ∷ bs) big e = omega arith

some_byte : (bs : List ℕ) → 48 < slice_index bs 0 → 0 < length bs
some_byte [] big = omega arith
some_byte (b ∷ bs) big = omega arith

-- the size by its tests
size_by : (b : Bool) (first value n : ℕ) → 48 < first → b ≡ true → 4096 ≤ n → n ≤ 1073741824 → n ≡ value
    → Some n ≡ cond (nat_lt 48 first && (b && (nat_le 4096 value && nat_le value 1073741824))) (Some value) None
size_by b first value n big digits least most is = rw (digits, is) (grind (arith, nat_tests))

none_by : (b : Bool) (first value : ℕ)
    → (b ≡ true → 2 ^ 64 ≤ value)
    → None ≡ cond (nat_lt 48 first && (b && (nat_le 4096 value && nat_le value 1073741824))) (Some value) None
none_by true first value above = let over = above refl in grind (arith, nat_tests)
none_by false first value above = grind (arith, nat_tests)

module _ {E : Type 0} (bs : List ℕ) (big : 48 < slice_index bs 0) where
  pub good : (r : Result ℕ E) (n : ℕ)
      → ParsesUnsigned 64 10 bs r
      → r ≡ Ok n
      → 4096 ≤ n
      → n ≤ 1073741824
      → Some n ≡ heap_size bs
  good (Ok m) n h is least most =
      let told = parse_plain own {E = E} 64 bs (Ok m) h (no_plus bs big) in
      let same : m ≡ n = let e = is in cc in
      size_by (all_ascii_digits bs) (slice_index bs 0) (digits_value 10 bs) n big told.0.0 least most
      (omega (arith, told.1, same))
  good (Err e) n h is least most = absurd (let e = is in cc)

  pub no_number : (r : Result ℕ E) (e : E) → ParsesUnsigned 64 10 bs r → r ≡ Err e → None ≡ heap_size bs
  no_number (Ok m) e h is = absurd (let e = is in cc)
  no_number (Err k) e h is =
      let told = parse_plain own {E = E} 64 bs (Err k) h (no_plus bs big) in
      none_by (all_ascii_digits bs) (slice_index bs 0) (digits_value 10 bs)
      (λ digits. above (λ small. told (digits, some_byte bs big, small)))
    where
      above : ((digits_value 10 bs < 2 ^ 64) → ⊥) → 2 ^ 64 ≤ digits_value 10 bs
      above not_small = omega (arith, not_small)
