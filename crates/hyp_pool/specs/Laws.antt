-- Laws of giving frames to a pool, each proved on the contract of a function of `laws`.
use Rattle.std.specs.Prelude.{◌≡◌, ℕ, ◌+◌, ◌<◌, ◌≤◌, ◌⊎◌, ◌↔◌, List, ◌∷◌, ◌++◌, length, take, drop, Contains}
use Rattle.std.specs.List.Sorted.{IsStrictlyIncreasing}
use Rattle.page_state.specs.Counts.{frame_count}
use Rattle.page_state.specs.Trees.{Pool}
use Rattle.page_state.specs.Tables.{given, all_given}

-- two frames can be given in either order
abbrev pub GivenSwap : Type 0
GivenSwap = (f g : ℕ) (p : Pool) → given f (given g p) ≡ given g (given f p)

-- lists that have each frame equally often make one pool
abbrev pub GivenCounted : Type 0
GivenCounted =
    (fs gs : List ℕ) (p : Pool)
    → ((f : ℕ) → frame_count f fs ≡ frame_count f gs)
    → all_given fs p ≡ all_given gs p

-- two lists one after the other: the second is given first
abbrev pub GivenAppend : Type 0
GivenAppend = (fs gs : List ℕ) (p : Pool) → all_given (fs ++ gs) p ≡ all_given fs (all_given gs p)

-- the lowest frames come back to their places
abbrev pub GivenBack : Type 0
GivenBack = (n : ℕ) (p : Pool) → IsStrictlyIncreasing p → all_given (take n p) (drop n p) ≡ p

-- a given frame is one more
abbrev pub GivenLength : Type 0
GivenLength = (f : ℕ) (p : Pool) → length (given f p) ≡ length p + 1

-- the count of the frame rises by one, and the count of each other stays
abbrev pub GivenCount : Type 0
GivenCount = (f g : ℕ) (p : Pool) → frame_count g (given f p) ≡ frame_count g (f ∷ p)

-- and many frames are as many more
abbrev pub AllGivenLength : Type 0
AllGivenLength = (fs : List ℕ) (p : Pool) → length (all_given fs p) ≡ length fs + length p

-- each of them as often as in both together
abbrev pub AllGivenCount : Type 0
AllGivenCount =
    (f : ℕ) (fs : List ℕ) (p : Pool)
    → frame_count f (all_given fs p) ≡ frame_count f fs + frame_count f p

-- the frames of the pool are the old ones and the given one
abbrev pub GivenContains : Type 0
GivenContains = (f g : ℕ) (p : Pool) → Contains (given f p) g ↔ ((f ≡ g) ⊎ Contains p g)

-- a frame is in a list if its count isn't 0
abbrev pub CountContains : Type 0
CountContains = (f : ℕ) (fs : List ℕ) → Contains fs f ↔ (0 < frame_count f fs)

-- a pool has each frame at most once
abbrev pub CountOnce : Type 0
CountOnce = (f : ℕ) (p : Pool) → IsStrictlyIncreasing p → frame_count f p ≤ 1
