-- The names that a wrong word may have been meant for (profile).
use Rattle.std.specs.Prelude.{ℕ, ◌+◌, ◌/◌, ◌||◌, nat_lt, nat_eq, List, [], ◌∷◌, codes, length, map, if◌then◌else◌}
use Rattle.std.specs.Str.{bytes_eq}
use Rattle.call_table.specs.Rows.{calls, row}
use Rattle.strsim.specs.Edits.{levenshtein_row}
use Rattle.trace_lines.specs.Asked.{begins_with_digit}

-- how many bytes one word has to gain, lose or change to be the other
abbrev pub edits : List ℕ → List ℕ → ℕ
edits name word = levenshtein_row nat_eq name word (length word)

-- the first of the names with the fewest edits to a word, if these are fewer than `least`; else
-- `found`
abbrev pub nearest : List ℕ → ℕ → List ℕ → List (List ℕ) → List ℕ
nearest word least found [] = found
nearest word least found (name ∷ more) =
    if nat_lt (edits name word) least then nearest word (edits name word) name more
    else nearest word least found more

-- the calls, in the order of their table
abbrev pub call_names : List (List ℕ)
call_names = map (λ call. (row call).word) calls

-- the words that begin all other lines
abbrev pub first_names : List (List ℕ)
first_names =
    codes "geometry" ∷ codes "cpus" ∷ codes "log" ∷ codes "memory" ∷ codes "device" ∷ codes "carve"
    ∷ codes "boot" ∷ codes "start" ∷ codes "word" ∷ codes "free" ∷ codes "show" ∷ codes "poke" ∷ []

-- the names that the unknown word of a line that is no step line may be meant for, by the line's
-- first word
abbrev pub other_names : List ℕ → List (List ℕ)
other_names first =
    if bytes_eq first (codes "free") then codes "shared" ∷ codes "guest" ∷ []
    else (if bytes_eq first (codes "word") || bytes_eq first (codes "show")
    || bytes_eq first (codes "poke") then codes "host" ∷ codes "hyp" ∷ codes "guest" ∷ []
    else first_names)

-- and of any line
abbrev pub names_of : List ℕ → List (List ℕ)
names_of first = if begins_with_digit first then call_names else other_names first

-- the nearest of these: a third of the word's bytes may be wrong
abbrev pub nearest_of : List ℕ → List (List ℕ) → List ℕ
nearest_of word names = nearest word (length word / 3 + 1) [] names
