-- Pages of an image, of 4 KiB.
use Rattle.std.specs.Prelude.{◌≡◌, ℕ, zero, suc, ◌+◌, ◌-◌, ◌*◌, ◌&&◌, ◌^◌, nat_le, Bool, None, if◌then◌else◌, List, [], ◌∷◌, ◌++◌, find, Option, option_map, Result, Ok, Err}
use Rattle.std.specs.Option.{ForSome}
use Rattle.memory_image.specs.Pieces.{number64, piece}
use Rattle.std.specs.Global.{Global}
use Rattle.std.specs.declared.vec.Vec.{Vec}
use Rattle.memory_image.specs.declared.segment.Segment.{Segment}
use Rattle.memory_image.specs.declared.refused.Refused.{Refused}
use Rattle.memory_image.specs.declared.refused.Refused.TheVariants.{Wrong, Unread, NoMemory}

-- a segment has all of the page at an address
abbrev pub has_page : ℕ → Segment → Bool
has_page first s = nat_le s.address first && nat_le 4096 (s.count - (first - s.address))

-- where the page of a frame begins in the file: in the first segment that has all of it; a frame is
-- below 2^40
abbrev pub place_of : List Segment → ℕ → Option ℕ
place_of segments frame =
    if nat_le (2 ^ 40) frame then None
    else option_map (λ s. s.at + (frame * 4096 - s.address))
    (find (has_page (frame * 4096)) segments)

-- the first words of a page's bytes
unfoldable pub words_in : List ℕ → ℕ → List ℕ
words_in page zero = []
words_in page (suc n) = words_in page n ++ number64 page (8 * n) ∷ []

-- the words of a frame's page, by the file's bytes and the segments
abbrev pub page_words : List ℕ → List Segment → ℕ → Option (List ℕ)
page_words bytes segments frame =
    option_map (λ at. words_in (piece bytes at 4096) 512) (place_of segments frame)

-- the answer for a frame's page
abbrev pub IsPageRead : Option (List ℕ) → (ℕ → ℕ → Type 0) → List Segment → ℕ
    → Result (Option (Vec ℕ Global)) Refused → Type 0
IsPageRead known may_fail segments frame (Ok page) =
    ForSome known (λ all. option_map (λ words. words.items) page ≡ page_words all segments frame)
IsPageRead known may_fail segments frame (Err (Wrong fault)) = ⊥
IsPageRead known may_fail segments frame (Err (Unread at)) = may_fail at 4096
IsPageRead known may_fail segments frame (Err NoMemory) = Unit {0}
