-- The answers for an image whose bytes may be known.
use Rattle.std.specs.Prelude.{◌≡◌, ℕ, List, Option, Result, Ok, Err}
use Rattle.std.specs.Option.{ForSome}
use Rattle.std.specs.Global.{Global}
use Rattle.std.specs.declared.vec.Vec.{Vec}
use Rattle.memory_image.specs.CoreFile.{core_of, raw_of, segments_of}
use Rattle.memory_image.specs.declared.header.Table.{Table}
use Rattle.memory_image.specs.declared.segment.Segment.{Segment}
use Rattle.memory_image.specs.declared.refused.Fault.{Fault}
use Rattle.memory_image.specs.declared.refused.Refused.{Refused}
use Rattle.memory_image.specs.declared.refused.Refused.TheVariants.{Wrong, Unread, NoMemory}

-- the segments after one more header, or its fault
abbrev pub IsJoined : Result (List Segment) Fault → List Segment → Result (Unit {0}) Refused
    → Type 0
IsJoined said new (Ok done) = said ≡ Ok new
IsJoined said new (Err (Wrong fault)) = said ≡ Err fault
IsJoined said new (Err (Unread at)) = ⊥
IsJoined said new (Err NoMemory) = Unit {0}

-- the segments, or the fault, that these bytes have; bytes that could not be read are those of a
-- read that may fail
abbrev pub IsAnswered : Option (List ℕ) → (ℕ → ℕ → Type 0) → (List ℕ → Result (List Segment) Fault)
    → Result (Vec Segment Global) Refused → Type 0
IsAnswered known may_fail said (Ok segments) = ForSome known (λ all. said all ≡ Ok segments.items)
IsAnswered known may_fail said (Err (Wrong fault)) = ForSome known (λ all. said all ≡ Err fault)
IsAnswered known may_fail said (Err (Unread at)) = (count : ℕ) × may_fail at count
IsAnswered known may_fail said (Err NoMemory) = Unit {0}

abbrev pub IsRead : Option (List ℕ) → (ℕ → ℕ → Type 0) → ℕ → Table
    → Result (Vec Segment Global) Refused → Type 0
IsRead known may_fail count table =
    IsAnswered known may_fail (λ all. segments_of count all table table.headers)

-- the answer for a core
abbrev pub IsOpened : Option (List ℕ) → (ℕ → ℕ → Type 0) → Result (Vec Segment Global) Refused
    → Type 0
IsOpened known may_fail = IsAnswered known may_fail core_of

-- the answer for a raw image
abbrev pub IsOpenedRaw : Option (List ℕ) → (ℕ → ℕ → Type 0) → ℕ
    → Result (Vec Segment Global) Refused → Type 0
IsOpenedRaw known may_fail base = IsAnswered known may_fail (raw_of base)
