-- Names of values in the lines of a trace (profile).
use Rattle.std.specs.Prelude.{ℕ, ◌+◌, Bool, true, false, ◌&&◌, ◌||◌, ◌==◌, not, nat_le, List, [], ◌∷◌, ◌++◌, codes, drop, length, is_some, slice_get, unwrap_or, Option, Some, None, option_and_then, if◌then◌else◌}
use Rattle.std.specs.List.{list_any}
use Rattle.std.specs.Str.{bytes_eq}
use Rattle.trace_check.specs.Expectations.{expectation}
use Rattle.trace_words.specs.Words.{is_silent, words_of}

-- a letter, a digit or `_`
abbrev pub is_name_byte : ℕ → Bool
is_name_byte byte =
    (nat_le 0x30 byte && nat_le byte 0x39) || (nat_le 0x41 byte && nat_le byte 0x5a)
    || (nat_le 0x61 byte && nat_le byte 0x7a) || byte == 0x5f

-- whether another byte is among these
abbrev pub has_other : List ℕ → Bool
has_other bytes = list_any (λ byte. not (is_name_byte byte)) bytes

-- what may stand after `$`: one such byte or more
abbrev pub is_plain_name : List ℕ → Bool
is_plain_name bytes = if length bytes == 0 then false else not (has_other bytes)

-- a word that is a name: `$`, and then such bytes
abbrev pub is_named : List ℕ → Bool
is_named [] = false
is_named (first ∷ rest) = first == 0x24 && is_plain_name rest

-- lines whose words may be names: expectations, and all that aren't empty or a comment
abbrev pub has_names : List ℕ → Bool
has_names line = is_some (expectation line) || not (is_silent line)

-- the place of the first `$` that begins a word, from a place on; `spaced`: a space or nothing is
-- before it
abbrev pub dollar_from : ℕ → Bool → List ℕ → Option ℕ
dollar_from place spaced [] = None
dollar_from place spaced (byte ∷ bytes) =
    if spaced && byte == 0x24 then Some place else dollar_from (place + 1) (byte == 0x20) bytes

-- how many bytes of a line are before its first name
abbrev pub dollar_in : List ℕ → Option ℕ
dollar_in line = if has_names line then dollar_from 0 true line else None

-- a name: the number of its line, the line, and how many of its bytes are before the name
pub record Name : Type 0 where
  pub number : ℕ
  pub line : List ℕ
  pub offset : ℕ

abbrev pub name_at : ℕ → List ℕ → ℕ → Name
name_at number line offset = record { number = number; line = line; offset = offset }

-- the bytes before the first space
abbrev pub first_word : List ℕ → List ℕ
first_word bytes = unwrap_or (slice_get (words_of bytes) 0) []

-- the name itself, with its `$`
abbrev pub name_of : Name → List ℕ
name_of n = first_word (drop n.offset n.line)

-- the first name of lines, from a number on
abbrev pub first_from : ℕ → List (List ℕ) → Option Name
first_from number [] = None
first_from number (line ∷ rest) =
    elim (dollar_in line)
    [ Some offset ↦ Some (name_at number line offset) | None ↦ first_from (number + 1) rest ]

abbrev pub first_name : List (List ℕ) → Option Name
first_name lines = first_from 1 lines

-- a step that reserves a VM
abbrev pub reserves : List ℕ → Bool
reserves line =
    not (is_silent line)
    && bytes_eq (unwrap_or (slice_get (words_of line) 1) []) (codes "vm_reserve")

-- how many bytes of an expectation after such a step are before its first name
abbrev pub reserved_in : Bool → List ℕ → Option ℕ
reserved_in reserved line = if reserved && is_some (expectation line) then dollar_in line else None

-- whether the expectations after a line are those of such a step
abbrev pub reserves_next : Bool → List ℕ → Bool
reserves_next reserved line = if is_some (expectation line) then reserved else reserves line

-- a name among those that were seen
abbrev pub is_seen : List (List ℕ) → List ℕ → Bool
is_seen seen name = list_any (λ other. bytes_eq other name) seen

-- how many bytes of such an expectation are before its first name, if that was seen
abbrev pub twice_in : List (List ℕ) → Bool → List ℕ → Option ℕ
twice_in seen reserved line =
    option_and_then
    (λ offset. if is_seen seen (first_word (drop offset line)) then Some offset else None)
    (reserved_in reserved line)

-- the names that were seen, and that of the line
abbrev pub seen_next : List (List ℕ) → Bool → List ℕ → List (List ℕ)
seen_next seen reserved line =
    elim (reserved_in reserved line)
    [ Some offset ↦ seen ++ first_word (drop offset line) ∷ [] | None ↦ seen ]

-- the first name that a second reservation has, of lines from a number on
abbrev pub twice_from : List (List ℕ) → Bool → ℕ → List (List ℕ) → Option Name
twice_from seen reserved number [] = None
twice_from seen reserved number (line ∷ rest) =
    elim (twice_in seen reserved line) [
      | Some offset ↦ Some (name_at number line offset)
      | None ↦ twice_from (seen_next seen reserved line) (reserves_next reserved line)
          (number + 1) rest
    ]

abbrev pub twice : List (List ℕ) → Option Name
twice lines = twice_from [] false 1 lines

-- words, of which those that are a name become a value
abbrev pub put_word : List ℕ → List ℕ → List ℕ → List ℕ
put_word name value word = if bytes_eq word name then value else word

abbrev pub put_behind : List ℕ → List ℕ → List (List ℕ) → List ℕ
put_behind name value [] = []
put_behind name value (word ∷ more) = 0x20 ∷ put_word name value word ++ put_behind name value more

abbrev pub put_words : List ℕ → List ℕ → List (List ℕ) → List ℕ
put_words name value [] = []
put_words name value (word ∷ more) = put_word name value word ++ put_behind name value more

-- a line with a value for each word that is the name
abbrev pub put : List ℕ → List ℕ → List ℕ → List ℕ
put name value line = if has_names line then put_words name value (words_of line) else line
