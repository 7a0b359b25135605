-- Columns of a line, counted from 1 in bytes (profile).
use Rattle.std.specs.Prelude.{ℕ, ◌+◌, ◌-◌, Bool, true, ◌&&◌, ◌==◌, List, [], ◌∷◌, if◌then◌else◌}
use Rattle.trace_words.specs.Words.{is_stray}

-- the column of the word at a place, and one past the line's end if there is no such word
abbrev pub word_column : List ℕ → ℕ → ℕ
word_column [] place = 1
word_column (byte ∷ bytes) place =
    if place == 0 then 1 else 1 + word_column bytes (if byte == 0x20 then place - 1 else place)

-- the column of the first stray byte, and one past the line's end if there is none
abbrev pub stray_column : List ℕ → ℕ
stray_column [] = 1
stray_column (byte ∷ bytes) = if is_stray byte then 1 else 1 + stray_column bytes

-- the column of the first space with no word before it, and that of the line's last byte if there
-- is none; `spaced`: a space or nothing is before
abbrev pub space_column_after : Bool → List ℕ → ℕ
space_column_after spaced [] = 0
space_column_after spaced (byte ∷ bytes) =
    if spaced && (byte == 0x20) then 1 else 1 + space_column_after (byte == 0x20) bytes

abbrev pub space_column : List ℕ → ℕ
space_column line = space_column_after true line
