-- The bytes of a line, and the words that they make (profile).
use Rattle.std.specs.Prelude.{◌≡◌, ℕ, Bool, true, ◌||◌, nat_lt, ◌==◌, List, [], ◌∷◌, length, map, take, Option}
use Rattle.std.specs.List.{slice_split, list_any}
use Rattle.std.specs.Map.{lookup}
use Rattle.std.specs.Str.{bytes_eq}

-- a byte outside printable ASCII
abbrev pub is_stray : ℕ → Bool
is_stray byte = nat_lt byte 0x20 || nat_lt 0x7e byte

-- a line with such a byte
abbrev pub has_stray_byte : List ℕ → Bool
has_stray_byte line = list_any is_stray line

-- a line without a byte, or whose first is `#`: it says nothing
abbrev pub is_silent : List ℕ → Bool
is_silent [] = true
is_silent (first ∷ rest) = first == 0x23

-- the words of a line: the bytes before, between and after its spaces
abbrev pub words_of : List ℕ → List (List ℕ)
words_of line = slice_split (λ byte. byte == 0x20) line

-- one of the words has no byte
abbrev pub has_empty_word : List (List ℕ) → Bool
has_empty_word words = list_any (λ word. length word == 0) words

-- a space first, last, or twice in a row
abbrev pub has_stray_space : List ℕ → Bool
has_stray_space line = has_empty_word (words_of line)

-- the kept words: the first eight, how many there are, and whether one has no byte
pub record AreKept {X : Type 0} (now : X → List ℕ) (kept : List X) (count : ℕ) (has_empty : Bool)
    (words : List (List ℕ)) : Type 0 where
  pub first : map now kept ≡ take 8 words
  pub number : count ≡ length words
  pub empty : has_empty ≡ has_empty_word words

-- what a word names in a list of names
abbrev pub named : {X : Type 0} → List (List ℕ × X) → List ℕ → Option X
named names word = lookup (bytes_eq word) names
