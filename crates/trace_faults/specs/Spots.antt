-- Where the fault of a line is, and what was found and expected there (profile).
use Rattle.std.specs.Prelude.{ℕ, ◌+◌, Bool, ◌==◌, List, [], ◌∷◌, ◌++◌, codes, length, take, Some, None, slice_get, slice_index_or, unwrap_or, if◌then◌else◌}
use Rattle.std.specs.Fmt.{decimal}
use Rattle.std.specs.List.{list_any}
use Rattle.std.specs.Str.{bytes_eq}
use Rattle.trace_faults.specs.declared.form.Form.{Form}
use Rattle.trace_faults.specs.declared.saying.Spot.{Spot}
use Rattle.trace_faults.specs.Blame.{blamed, blamed_wanted, unblamed_found, unblamed_wanted}
use Rattle.trace_faults.specs.Columns.{word_column, stray_column, space_column}
use Rattle.trace_faults.specs.Forms.{forms, first_wrong, wanted_form}
use Rattle.trace_faults.specs.Names.{names_of, nearest_of}
use Rattle.trace_faults.specs.Wanted.{unknown_place, unknown_wanted, place_wanted}
use Rattle.trace_lines.specs.declared.fault.LineFault.{LineFault}
use Rattle.trace_lines.specs.declared.fault.LineFault.TheVariants.{Long, Byte, Space, Word, Place, Count, Form as WrongForm}
use Rattle.trace_text.specs.declared.fault.Fault.{Fault}
use Rattle.trace_text.specs.declared.fault.Fault.TheVariants as faults
use Rattle.trace_text.specs.Texts.{text_of_fault}
use Rattle.trace_words.specs.Words.{is_stray, words_of}

-- a line's number, a column, and what was found and expected there
pub record Told : Type 0 where
  pub line : ℕ
  pub column : ℕ
  pub said : List ℕ

-- the text of a spot
abbrev pub spot_in : Spot → Told
spot_in spot = record { line = spot.line; column = spot.column; said = spot.said.items }

abbrev pub said_of : List ℕ → List ℕ → List ℕ
said_of found wanted = codes "found " ++ found ++ codes ", wanted " ++ wanted

-- a word, or a line
abbrev pub word_text : List ℕ → List ℕ
word_text word = codes "`" ++ word ++ codes "`"

-- of something that is no word
abbrev pub at : ℕ → ℕ → List ℕ → List ℕ → Told
at number column found wanted =
    record { line = number; column = column; said = said_of found wanted }

-- of a whole line
abbrev pub of_line : ℕ → List ℕ → List ℕ → Told
of_line number line wanted = at number 1 (word_text line) wanted

-- the spot of the word at a place of a line, or of the line's end if there is none
abbrev pub at_word : ℕ → List ℕ → ℕ → List ℕ → Told
at_word number line place wanted =
    at number (word_column line place)
    (elim (slice_get (words_of line) place)
    [ Some word ↦ word_text word | None ↦ codes "the line's end" ]) wanted

-- the same with the fault's name first
abbrev pub with_fault : Fault → Told → Told
with_fault fault spot =
    record {
      line = spot.line;
      column = spot.column;
      said = codes "fault " ++ text_of_fault fault
          ++ codes ": " ++ spot.said;
    }

-- a line for it, with the name of the trace's file
abbrev pub spot_line : List ℕ → Told → List ℕ
spot_line name spot =
    name ++ codes ":" ++ decimal spot.line ++ codes ":" ++ decimal spot.column ++ codes ": "
    ++ spot.said ++ 10 ∷ []

-- the first word of a line
abbrev pub first_word : List ℕ → List ℕ
first_word line = unwrap_or (slice_get (words_of line) 0) []

-- the question whether a name was meant
abbrev pub asked : List ℕ → List ℕ
asked name = codes "; did you mean " ++ name ++ codes "?"

-- the same of a name that may be missing: no question then
abbrev pub meant : List ℕ → List ℕ
meant name = if length name == 0 then [] else asked name

-- what is expected for an unknown word, by the line's first, and the name that it may be meant for
unfoldable pub unknown_text : List ℕ → List ℕ → List ℕ
unknown_text first word = unknown_wanted first ++ meant (nearest_of word (names_of first))

-- the word that is unknown or missing
abbrev pub unknown_at : ℕ → List ℕ → List ℕ → ℕ → Told
unknown_at number line first place =
    at_word number line place (unknown_text first (unwrap_or (slice_get (words_of line) place) []))

abbrev pub unknown_spot : ℕ → List ℕ → Told
unknown_spot number line =
    unknown_at number line (first_word line) (unknown_place (first_word line))

-- the word that is missing, with its form, or the first that is too many
abbrev pub counted_spot : ℕ → List ℕ → Told
counted_spot number line =
    elim (slice_get (forms (words_of line)) (length (words_of line))) [
      | Some form ↦ at_word number line (length (words_of line)) (wanted_form form)
      | None ↦ at_word number line (length (forms (words_of line))) (codes "the line's end")
    ]

-- the first word that isn't of its form
abbrev pub wrong_at : ℕ → List ℕ → List Form → ℕ → Told
wrong_at number line forms place =
    at_word number line place
    (elim (slice_get forms place)
    [ Some form ↦ wanted_form form | None ↦ codes "the line's end" ])

abbrev pub wrong_spot : ℕ → List ℕ → Told
wrong_spot number line =
    wrong_at number line (forms (words_of line))
    (first_wrong (words_of line) (forms (words_of line)) 0)

-- a byte that no line may have, in words
abbrev pub byte_text : ℕ → List ℕ
byte_text byte =
    if byte == 9 then codes "a tab"
    else (if byte == 13 then codes "a carriage return" else codes "another byte")

-- the first that a line has
abbrev pub byte_found : List ℕ → List ℕ
byte_found [] = codes "another byte"
byte_found (byte ∷ bytes) = if is_stray byte then byte_text byte else byte_found bytes

-- where a fault of a line is, by the line itself and by whether a line before it is `boot`
abbrev pub line_spot : ℕ → List ℕ → LineFault → Bool → Told
line_spot number line Long booted =
    at number 257 (codes "a longer line") (codes "256 bytes at most")
line_spot number line Byte booted =
    at number (stray_column line) (byte_found line) (codes "printable ASCII")
line_spot number line Space booted =
    at number (space_column line) (codes "a space") (codes "one between two words")
line_spot number line Word booted = unknown_spot number line
line_spot number line Place booted = at_word number line 0 (place_wanted (first_word line) booted)
line_spot number line Count booted = counted_spot number line
line_spot number line WrongForm booted = wrong_spot number line

-- whether one of these lines is `boot`
abbrev pub has_booted : List (List ℕ) → Bool
has_booted lines = list_any (λ line. bytes_eq line (codes "boot")) lines

-- the number of CPUs that these lines set, as it is written: 1 if none does
abbrev pub cpus_word : List (List ℕ) → List ℕ
cpus_word [] = codes "1"
cpus_word (line ∷ rest) =
    if bytes_eq (first_word line) (codes "cpus") then unwrap_or (slice_get (words_of line) 1) []
    else cpus_word rest

-- the place of the page in a line on a path: after the tree's name, which for a guest has its slot
abbrev pub page_place : List ℕ → ℕ
page_place line =
    if bytes_eq (unwrap_or (slice_get (words_of line) 1) []) (codes "guest") then 3 else 2

-- where a refused boot is at fault: the setting that its fault blames, or `boot` itself
abbrev pub boot_spot : List (List ℕ) → ℕ → Fault → Told
boot_spot lines place fault =
    elim (blamed fault [] (take place lines)) [
      | Some at_fault ↦ of_line (at_fault + 1) (slice_index_or lines at_fault [])
          (blamed_wanted fault (first_word (slice_index_or lines at_fault [])))
      | None ↦ at (place + 1) 1 (unblamed_found fault) (unblamed_wanted fault)
    ]

-- where the fault of the line at a place is, by the lines of its trace
unfoldable pub spot_of : List (List ℕ) → ℕ → Fault → Told
spot_of lines place faults.Lines =
    at (place + 1) 1 (codes "one more line") (codes "1048576 lines at most")
spot_of lines place (faults.Line fault) =
    line_spot (place + 1) (slice_index_or lines place []) fault (has_booted (take place lines))
spot_of lines place faults.Cpu =
    at_word (place + 1) (slice_index_or lines place []) 0
    (codes "a CPU below " ++ cpus_word (take place lines))
spot_of lines place (faults.Layout fault) = boot_spot lines place (faults.Layout fault)
spot_of lines place (faults.Boot fault) = boot_spot lines place (faults.Boot fault)
spot_of lines place faults.Path =
    at_word (place + 1) (slice_index_or lines place [])
    (page_place (slice_index_or lines place [])) (codes "a word that the tree has")

-- a line for it
abbrev pub place_line : List ℕ → List (List ℕ) → ℕ → Fault → List ℕ
place_line name lines place fault = spot_line name (with_fault fault (spot_of lines place fault))
