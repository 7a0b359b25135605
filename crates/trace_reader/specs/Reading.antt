-- The lines of a trace, and one of them, read.
use Rattle.std.specs.Prelude.{◌≡◌, ℕ, ◌≤◌, ◌==◌, Bool, false, List, [], ◌∷◌, length, take, Option, IfSome, IsSomeAnd, MatchBool, if◌then◌else◌}
use Rattle.std.specs.List.{slice_split}

-- parts but for a last one that has no byte
abbrev pub without_empty_last : List (List ℕ) → List (List ℕ)
without_empty_last [] = []
without_empty_last (part ∷ []) = if length part == 0 then [] else part ∷ []
without_empty_last (part ∷ next ∷ parts) = part ∷ without_empty_last (next ∷ parts)

-- the lines of a trace without their ends, the byte 10: the last may lack its end, and an empty
-- text after the last end is no line
unfoldable pub lines_of : List ℕ → List (List ℕ)
lines_of bytes = without_empty_last (slice_split (λ byte. byte == 10) bytes)

-- no byte of these ends a line
abbrev pub HasNoEnd : List ℕ → Type 0
HasNoEnd [] = Unit {0}
HasNoEnd (byte ∷ bytes) = ((byte == 10) ≡ false) × HasNoEnd bytes

-- the first line of these bytes, read as far as shows that it is long, and the bytes left
pub record IsFirstLine (bytes line : List ℕ) (left : Option (List ℕ)) : Type 0 where
  pub whole : List ℕ
  pub rest : List (List ℕ)
  pub lines : lines_of bytes ≡ whole ∷ rest
  pub read : line ≡ take 257 whole
  pub next : length whole ≤ 256 → IsSomeAnd left (λ more. lines_of more ≡ rest)

-- a line was found and read, or none was left
abbrev pub ReadsLine : Bool → Option (List ℕ) → Option (List ℕ) → List ℕ → Type 0
ReadsLine found bytes left line =
    IfSome bytes (λ all. MatchBool found (IsFirstLine all line left) (all ≡ []))
