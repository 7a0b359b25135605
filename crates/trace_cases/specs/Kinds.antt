-- The texts that an expectation lists for a step whose reply may vary (profile).
use Rattle.std.specs.Prelude.{ℕ, ◌-◌, Bool, ◌==◌, List, codes, drop, take, length, map, nat_eq, if◌then◌else◌}
use Rattle.std.specs.Char.{is_ascii_whitespace}
use Rattle.std.specs.List.{prefix_len, slice_split, starts_with, suffix_len}

-- whether other replies may come, too
abbrev pub is_open : List ℕ → Bool
is_open text = starts_with nat_eq text (codes "sometimes ")

abbrev pub behind_word : List ℕ → List ℕ
behind_word text = if is_open text then drop 10 text else text

-- a text without the spaces before it, and without those around it
abbrev pub led : List ℕ → List ℕ
led text = drop (prefix_len is_ascii_whitespace text) text

abbrev pub trimmed : List ℕ → List ℕ
trimmed text = take (length (led text) - suffix_len is_ascii_whitespace (led text)) (led text)

-- the listed texts: those between bars
abbrev pub kinds : List ℕ → List (List ℕ)
kinds text = map trimmed (slice_split (λ byte. byte == 0x7c) (behind_word text))
