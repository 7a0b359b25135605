-- Watches in the lines of a trace, and what is wrong with lines that are none (profile).
use Rattle.std.specs.Prelude.{ℕ, ◌+◌, Bool, false, ◌||◌, ◌==◌, not, nat_eq, List, [], ◌∷◌, ◌++◌, codes, drop, length, is_none, slice_get, unwrap_or, Option, Some, None, Result, Ok, Err, if◌then◌else◌}
use Rattle.std.specs.List.{starts_with}
use Rattle.std.specs.Str.{bytes_eq}
use Rattle.trace_cases.specs.Ways.{has_poke}
use Rattle.trace_faults.specs.Columns.{word_column}
use Rattle.trace_faults.specs.Spots.{Told, word_text}
use Rattle.trace_words.specs.Numbers.{number_of}
use Rattle.trace_words.specs.Words.{has_stray_space, words_of}

-- a line that begins as a watch does
abbrev pub is_marked : List ℕ → Bool
is_marked line = starts_with nat_eq line (codes "#!")

abbrev pub is_boot : List ℕ → Bool
is_boot line = bytes_eq line (codes "boot")

-- the word at a place of a line; without a byte if there is none
abbrev pub word_at : List ℕ → ℕ → List ℕ
word_at line place = unwrap_or (slice_get (words_of line) place) []

-- a watch: the number of its line, and the line, `#! owner_of FRAME REPLY`
pub record Watch : Type 0 where
  pub number : ℕ
  pub line : List ℕ

-- the query behind a CPU, and the reply that it must get: what is behind FRAME
abbrev pub query_of : List ℕ → List ℕ
query_of line = codes " owner_of " ++ word_at line 2

abbrev pub wanted_of : List ℕ → List ℕ
wanted_of line = drop (13 + length (word_at line 2)) line

-- a fault of a line, at a column
abbrev pub fault_at : ℕ → ℕ → List ℕ → List ℕ → Told
fault_at number column found wanted = record {
  line = number;
  column = column;
  said = codes "fault form: found " ++ found ++ codes ", wanted " ++ wanted;
}

-- of the whole line, and of a word of it
abbrev pub line_fault : ℕ → List ℕ → List ℕ → Told
line_fault number line wanted = fault_at number 1 (word_text line) wanted

abbrev pub found_at : List ℕ → ℕ → List ℕ
found_at line place =
    elim (slice_get (words_of line) place)
    [ Some word ↦ word_text word | None ↦ codes "the line's end" ]

abbrev pub word_fault : ℕ → List ℕ → ℕ → List ℕ → Told
word_fault number line place wanted =
    fault_at number (word_column line place) (found_at line place) wanted

-- what is wrong with the words of a watch, the first word first
abbrev pub form_fault : ℕ → List ℕ → Option Told
form_fault number line =
    if has_stray_space line
    then Some (line_fault number line (codes "words with one space between them"))
    else (if not (bytes_eq (word_at line 0) (codes "#!"))
    then Some (word_fault number line 0 (codes "#! and a query"))
    else (if not (bytes_eq (word_at line 1) (codes "owner_of"))
    then Some (word_fault number line 1 (codes "owner_of"))
    else (if is_none (number_of (word_at line 2))
    then Some (word_fault number line 2 (codes "FRAME, a number"))
    else (if length (word_at line 3) == 0
    then Some (word_fault number line 3 (codes "a reply")) else None))))

-- what is wrong with a line, in a trace that has a poke or none, behind `boot` or before it
abbrev pub fault_of : Bool → Bool → ℕ → List ℕ → Option Told
fault_of poked booted number line =
    if not (is_marked line) then None
    else (if booted then Some (line_fault number line (codes "a watch before boot"))
    else (if poked then Some (line_fault number line (codes "a watch in a trace without a poke"))
    else form_fault number line))

-- the watches that were seen, and the line if it is one
abbrev pub seen_next : List Watch → ℕ → List ℕ → List Watch
seen_next seen number line =
    if is_marked line then seen ++ record { number = number; line = line } ∷ [] else seen

-- all watches of lines from a number on, behind those that were seen, or the first fault
abbrev pub watches_from : Bool → List Watch → Bool → ℕ → List (List ℕ) → Result (List Watch) Told
watches_from poked seen booted number [] = Ok seen
watches_from poked seen booted number (line ∷ rest) =
    elim (fault_of poked booted number line) [
      | Some fault ↦ Err fault
      | None ↦ watches_from poked (seen_next seen number line) (booted || is_boot line)
          (number + 1) rest
    ]

-- those of a trace
abbrev pub watches_of : List (List ℕ) → Result (List Watch) Told
watches_of lines = watches_from (has_poke lines) [] false 1 lines
