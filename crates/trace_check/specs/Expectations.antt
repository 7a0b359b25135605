-- Comments that say what the line before them must report (profile).
use Rattle.std.specs.Prelude.{ℕ, ◌+◌, Bool, false, ◌&&◌, ◌==◌, not, nat_lt, List, [], ◌∷◌, ◌++◌, length, codes, take, drop, is_some, Option, Some, None, count_by, if◌then◌else◌}
use Rattle.std.specs.Str.{bytes_eq}
use Rattle.trace_words.specs.Words.{has_stray_byte}

-- what a line expects, if it is an expectation: what follows `#= ` in a line without a fault
unfoldable pub expectation : List ℕ → Option (List ℕ)
expectation line =
    if nat_lt 256 (length line) then None
    else (if nat_lt (length line) 3 then None
    else (if has_stray_byte line then None
    else (if not (bytes_eq (take 3 line) (codes "#= ")) then None
    else Some (drop 3 line))))

-- the expectation of a text
abbrev pub comment : List ℕ → List ℕ
comment text = codes "#= " ++ text

-- what the expectations at the front of lines expect
abbrev pub expected_first : List (List ℕ) → List (List ℕ)
expected_first [] = []
expected_first (line ∷ rest) =
    elim (expectation line) [ None ↦ [] | Some text ↦ text ∷ expected_first rest ]

-- how many lines are expectations
abbrev pub count_expected : List (List ℕ) → ℕ
count_expected lines = count_by (λ line. is_some (expectation line)) lines

-- bytes of which the first that is no space is `=`
abbrev pub leads_to_mark : List ℕ → Bool
leads_to_mark [] = false
leads_to_mark (byte ∷ bytes) = if byte == 0x20 then leads_to_mark bytes else byte == 0x3d

-- a comment that begins so
abbrev pub is_marked : List ℕ → Bool
is_marked [] = false
is_marked (first ∷ rest) = if first == 0x23 then leads_to_mark rest else false

-- a comment that is like an expectation, and is none. A line with a fault is not meant here
abbrev pub is_mistaken : List ℕ → Bool
is_mistaken line =
    if nat_lt 256 (length line) then false
    else (if has_stray_byte line then false
    else is_marked line && not (is_some (expectation line)))

-- how many lines are such comments
abbrev pub count_mistaken : List (List ℕ) → ℕ
count_mistaken lines = count_by is_mistaken lines
