-- Bytes that are read and not yet given to a line.
use Rattle.std.specs.Prelude.{◌≡◌, ℕ, ◌≤◌, Bool, false, List, ◌∷◌, ◌++◌, length, slice_range, Option, MatchBool}
use Rattle.std.specs.Io.KnownBytes.{prepend_known}
use Rattle.trace_reader.specs.declared.ahead.ReadAhead.{ReadAhead}
use Rattle.trace_reader.specs.Reading.{HasNoEnd}

-- the bytes that are held
abbrev pub held : ReadAhead → List ℕ
held a = slice_range a.bytes.items a.start a.end

-- all bytes that aren't made into lines yet: the held ones, and then those left in the source, if
-- they are known
abbrev pub left : ReadAhead → Option (List ℕ) → Option (List ℕ)
left a remaining = prepend_known (held a) remaining

-- bytes moved from those that are held to a line: all up to a line's end, or some until nothing is
-- held or the line has 257
pub record Moves (ended : Bool) (before after line next : List ℕ) : Type 0 where
  pub moved : List ℕ
  pub plain : HasNoEnd moved
  pub grown : next ≡ line ++ moved
  pub rest : MatchBool ended (before ≡ moved ++ 10 ∷ after) (before ≡ moved ++ after)
  pub most : MatchBool ended (length next ≤ 256) (length next ≤ 257)
  pub some : ended ≡ false → 1 ≤ length moved
