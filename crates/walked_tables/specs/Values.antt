-- What pages have, and how it goes on along a run.
use Rattle.std.specs.Prelude.{ℕ, ◌+◌, ◌^◌, ◌<◌, ◌≤◌, Option, Some, None}
use Rattle.table_words.specs.declared.word.Decoded.{Decoded}
use Rattle.table_words.specs.declared.word.Decoded.TheVariants.{Unmapped, Leaf}
use Rattle.walked_tables.specs.declared.said.Said.{Said}

-- what a word that doesn't lead on gives its first page: the word 0 nothing
abbrev pub value_of : Decoded → Option Said
value_of Unmapped = None
value_of decoded = Some (record { 0 = decoded })

-- what a leaf says goes on with the page, all else is the same for each
abbrev pub advance_decoded : Decoded → ℕ → Decoded
advance_decoded (Leaf m) n = Leaf (record m { frame = record { 0 = m.frame.0 + n } })
advance_decoded decoded n = decoded

abbrev pub advance_said : Said → ℕ → Said
advance_said said n = record { 0 = advance_decoded said.0 n }

-- code reaches a leaf's frame `n` pages on without overflow
abbrev pub CanGo : Decoded → ℕ → Type 0
CanGo (Leaf m) n = m.frame.0 + n ≤ 2 ^ 63
CanGo decoded n = Unit {0}

abbrev pub CanGoOn : Said → ℕ → Type 0
CanGoOn said n = CanGo said.0 n

-- a leaf's frame is one that a word can say
abbrev pub IsSmall : Decoded → Type 0
IsSmall (Leaf m) = m.frame.0 < 2 ^ 40
IsSmall decoded = Unit {0}

abbrev pub HasSmallFrame : Said → Type 0
HasSmallFrame said = IsSmall said.0
