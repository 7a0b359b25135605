-- A trace with names, and the trace in which each name is its value (profile).
use Rattle.std.specs.Prelude.{◌≡◌, ℕ, ◌+◌, ◌-◌, ◌==◌, Bool, ◌&&◌, not, nat_lt, nat_eq, List, [], ◌∷◌, ◌++◌, codes, drop, length, map, take, is_some, slice_get, Option, Some, None, MatchOption, Result, Ok, Err, if◌then◌else◌}
use Rattle.std.specs.List.{list_any, starts_with}
use Rattle.trace_check.specs.Expectations.{expectation}
use Rattle.trace_check.specs.Records.{bytes_of, is_lacking, joined}
use Rattle.trace_cases.specs.Cases.{IsCaseRecord}
use Rattle.trace_faults.specs.Spots.{Told, word_text}
use Rattle.trace_reader.specs.Reading.{lines_of}
use Rattle.trace_values.specs.Names.{Name, first_name, first_word, is_named, name_of, put, twice}

-- the place of the last of these lines that is no expectation, from a place on, where that of those
-- before them is known
abbrev pub last_from : Option ℕ → ℕ → List (List ℕ) → Option ℕ
last_from last place [] = last
last_from last place (line ∷ rest) =
    last_from (if is_some (expectation line) then last else Some place) (place + 1) rest

abbrev pub last_line : List (List ℕ) → Option ℕ
last_line lines = last_from None 0 lines

-- the expectation that many lines behind that line
abbrev pub note_at : List (List ℕ) → ℕ → Option (List ℕ)
note_at lines count =
    elim (last_line lines) [ Some last ↦ slice_get (drop (last + 1) lines) count | None ↦ None ]

-- a fault at a name
abbrev pub fault_at : Name → List ℕ → List ℕ → List ℕ → Told
fault_at n fault found wanted = record {
  line = n.number;
  column = n.offset + 1;
  said = codes "fault " ++ fault ++ codes ": found " ++ found ++ codes ", wanted " ++ wanted;
}

-- what an expectation expects
abbrev pub text_in : List ℕ → List ℕ
text_in line = drop 3 line

-- a word that begins with `$` and is no name, or a name behind which no value can be: it is in no
-- expectation
abbrev pub misnamed : Name → Option Told
misnamed n =
    if not (is_named (name_of n))
    then Some
    (fault_at n (codes "form") (word_text (name_of n))
    (codes "$ and a name of letters, digits and _"))
    else (if is_some (expectation n.line) then None
    else Some
    (fault_at n (codes "unbound") (word_text (name_of n))
    (codes "a name that an expectation before it binds")))

-- an expectation with another text behind it than the name's
abbrev pub other_at : Name → List ℕ → Told
other_at n found = fault_at n (codes "unbound") found (word_text (text_in n.line))

-- an expectation of several replies
abbrev pub has_bar : List ℕ → Bool
has_bar note = list_any (λ byte. byte == 0x7c) note

-- the value of a name by the expectation that is recorded in its place: what stands there where the
-- bytes before it are the same
abbrev pub value_by : Name → List ℕ → Result (List ℕ) Told
value_by n note =
    if has_bar note
    then Err
    (fault_at n (codes "differs") (word_text (text_in note))
    (codes "one value in each order"))
    else (if nat_lt n.offset (length note)
    && starts_with nat_eq note (take n.offset n.line) then Ok (first_word (drop n.offset note))
    else Err (other_at n (word_text (text_in note))))

abbrev pub value_told : Name → Option (List ℕ) → Result (List ℕ) Told
value_told n None = Err (other_at n (codes "nothing"))
value_told n (Some note) = value_by n note

module _ (A : Type 0) (lines : List (List ℕ)) (n : Name) where
  -- the value of a name in an expectation, or the fault, by the record of the lines up to the one
  -- that has the expectation: they have no name
  pub record IsTold (last : ℕ) (told : Result (List ℕ) Told) : Type 0 where
    pub text : List ℕ
    pub is : IsCaseRecord A (bytes_of (take (last + 1) lines)) text
    pub told_is : told ≡ value_told n (note_at (lines_of text) (n.number - 1 - (last + 1)))

  -- by the last line before it that is no expectation
  abbrev pub Asks : Result (List ℕ) Told → Type 0
  Asks told =
      MatchOption (last_line (take (n.number - 1) lines))
      (told ≡ Err (other_at n (codes "nothing"))) (λ last. IsTold last told)

  -- of the first name of lines
  abbrev pub Says : Result (List ℕ) Told → Type 0
  Says told = MatchOption (misnamed n) (Asks told) (λ fault. told ≡ Err fault)

-- a text in whose lines a name is a value
abbrev pub put_in : List ℕ → List ℕ → List ℕ → List ℕ
put_in text name value = let lines = map (put name value) (lines_of text) in
    joined (is_lacking text lines) lines

-- the first name of a text, with what it says: a value, or the fault
pub record SaysFirst (A : Type 0) (text : List ℕ) (told : Result (List ℕ) Told) : Type 0 where
  pub name : Name
  pub first : first_name (lines_of text) ≡ Some name
  pub says : Says A (lines_of text) name told

-- one name of a text becomes its value
pub record IsPut (A : Type 0) (text value new : List ℕ) : Type 0 where
  pub name : Name
  pub first : first_name (lines_of text) ≡ Some name
  pub says : Says A (lines_of text) name (Ok value)
  pub new_is : new ≡ put_in text (name_of name) value

-- a text whose names have these values, one after another: the text without a name, or the fault of
-- the next name
abbrev pub Expands : Type 0 → List (List ℕ) → List ℕ → Result (List ℕ) Told → Type 0
Expands A [] text (Ok plain) = (first_name (lines_of text) ≡ None) × (plain ≡ text)
Expands A [] text (Err fault) = SaysFirst A text (Err fault)
Expands A (value ∷ values) text told =
    (new : List ℕ) × IsPut A text value new × Expands A values new told

-- the names of a trace have some values
pub record HasValues (A : Type 0) (trace : List ℕ) (told : Result (List ℕ) Told) : Type 0 where
  pub values : List (List ℕ)
  pub expands : Expands A values trace told

-- a name of two reservations: no VM is reserved twice
abbrev pub twice_at : Name → Told
twice_at n =
    fault_at n (codes "twice") (word_text (name_of n))
    (codes "a name that no vm_reserve before it binds")

-- the expansion of a trace
abbrev pub IsExpansion : Type 0 → List ℕ → Result (List ℕ) Told → Type 0
IsExpansion A trace told =
    MatchOption (twice (lines_of trace)) (HasValues A trace told) (λ n. told ≡ Err (twice_at n))
