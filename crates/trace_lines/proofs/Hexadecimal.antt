-- Digits filled up with zeros.
use Rattle.std.proofs.Common.{ℕ, ◌-◌, ◌^◌, ◌≡◌, ap, arith, List, [], ◌++◌, length, false}
use Rattle.std.proofs.lemmas.List.{append-nil}
use Rattle.std.specs.Prelude.{replicate}
use Rattle.std.specs.Fmt.{padded_integral, format_spec, char_count}

-- what `{:016x}` writes of digits
pub zeros_before : (numeral : List ℕ)
    → padded_integral (format_spec 32 0 4 16 (2 ^ 64 - 1)) false [] numeral
    ≡ replicate (16 - length numeral) 48 ++ numeral
unfolding padded_integral char_count
zeros_before numeral = simp append-nil (ap (λ n. replicate n 48 ++ numeral) (omega arith))
