-- The lines of bytes that are put together from lines, and what no line has.
use Rattle.std.proofs.Common.{◌≡◌, ℕ, ◌<◌, refl, ◌==◌, Bool, true, false, cond, List, [], ◌∷◌, ◌++◌, length}
use Rattle.std.specs.List.{onto_first}
use Rattle.trace_reader.specs.Reading.{HasNoEnd, lines_of, without_empty_last}
use Rattle.trace_reader.proofs.LineLemmas.{parts, ended, alone, stays, only}

-- none of these lines has an end
abbrev pub HaveNoEnds : List (List ℕ) → Type 0
HaveNoEnds [] = Unit {0}
HaveNoEnds (line ∷ rest) = HasNoEnd line × HaveNoEnds rest

-- a line with its end comes first
pub line_first : (line left : List ℕ) → HasNoEnd line → lines_of (line ++ 10 ∷ left) ≡ line ∷ lines_of left
unfolding lines_of
line_first line left p = rw (ended line left p) (stays line left)

-- a last line without its end
pub line_last : (line : List ℕ) → HasNoEnd line → 0 < length line → lines_of line ≡ line ∷ []
unfolding lines_of
line_last line p some = rw (alone line p) (only line some)

onto_plain : (byte : ℕ) (parts : List (List ℕ))
    → (byte == 10) ≡ false
    → HaveNoEnds parts
    → HaveNoEnds (onto_first byte parts)
onto_plain byte [] e h = ((e, tt), tt)
onto_plain byte (part ∷ parts) e h = ((e, h.0), h.1)

parts_next : (byte : ℕ) (parts : List (List ℕ)) (b : Bool)
    → (byte == 10) ≡ b
    → HaveNoEnds parts
    → HaveNoEnds (cond b ([] ∷ parts) (onto_first byte parts))
parts_next byte parts true e h = (tt, h)
parts_next byte parts false e h = onto_plain byte parts e h

parts_plain : (bytes : List ℕ) → HaveNoEnds (parts bytes)
parts_plain [] = (tt, tt)
parts_plain (byte ∷ bytes) = parts_next byte (parts bytes) (byte == 10) refl (parts_plain bytes)

without_plain : (parts : List (List ℕ)) → HaveNoEnds parts → HaveNoEnds (without_empty_last parts)
without_plain [] h = tt
without_plain (part ∷ []) h = by_length (length part == 0)
  where
    by_length : (b : Bool) → HaveNoEnds (cond b [] (part ∷ []))
    by_length true = tt
    by_length false = h
without_plain (part ∷ next ∷ rest) h = (h.0, without_plain (next ∷ rest) h.1)

-- no line of bytes has an end
pub lines_plain : (bytes : List ℕ) → HaveNoEnds (lines_of bytes)
unfolding lines_of
lines_plain bytes = without_plain (parts bytes) (parts_plain bytes)
