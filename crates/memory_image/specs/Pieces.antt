-- Pieces of a file, and numbers in them, of which the lowest byte comes first.
use Rattle.std.specs.Prelude.{ℕ, ◌+◌, List, [], ◌∷◌, slice_index, slice_range}
use Rattle.std.specs.Int.{from_le_bytes, w16, w32, w64}

-- the bytes from a place on
abbrev pub piece : List ℕ → (at count : ℕ) → List ℕ
piece bytes at count = slice_range bytes at (at + count)

-- the number of two bytes
unfoldable pub number16 : List ℕ → ℕ → ℕ
number16 b at = from_le_bytes w16 (slice_index b at ∷ slice_index b (at + 1) ∷ [])

-- of four
unfoldable pub number32 : List ℕ → ℕ → ℕ
number32 b at =
    from_le_bytes w32
    (slice_index b at ∷ slice_index b (at + 1) ∷ slice_index b (at + 2)
    ∷ slice_index b (at + 3) ∷ [])

-- of eight
unfoldable pub number64 : List ℕ → ℕ → ℕ
number64 b at =
    from_le_bytes w64
    (slice_index b at ∷ slice_index b (at + 1) ∷ slice_index b (at + 2)
    ∷ slice_index b (at + 3) ∷ slice_index b (at + 4) ∷ slice_index b (at + 5)
    ∷ slice_index b (at + 6) ∷ slice_index b (at + 7) ∷ [])
