-- Pools of frames.
use Rattle.std.specs.Prelude.{◌≡◌, ℕ, ◌<◌, ◌≤◌, List, length, map, reverse, take, drop, All}
use Rattle.std.specs.List.Sorted.{IsStrictlyIncreasing}
use Rattle.page_state.specs.declared.Frame.{Frame}
use Rattle.page_state.specs.Trees.{Pool}

-- the view of a pool in contracts: its free frames, in increasing order, and the number of frames
-- for which it has room
pub record StoredFrames : Type 0 where
  pub frames : Pool
  pub room : ℕ

-- the invariant of a pool
pub record IsPool (p : StoredFrames) : Type 0 where
  pub rising : IsStrictlyIncreasing p.frames
  pub covered : length p.frames ≤ p.room

-- the numbers of frames
abbrev pub numbers : List Frame → List ℕ
numbers fs = map (λ f. f.0) fs

-- the numbers of frames that are kept with the highest first, the lowest first
abbrev pub lowest_first : List Frame → List ℕ
lowest_first fs = numbers (reverse fs)

-- the `n` lowest frames of pool `p` were taken, the lowest first: pool `q` is left, whose frames
-- are all greater
pub record AreTaken (n : ℕ) (p q : StoredFrames) (fs : List Frame) : Type 0 where
  pub frames : numbers fs ≡ take n p.frames
  pub left : q.frames ≡ drop n p.frames
  pub least : All (λ f. All (λ other. f.0 < other) q.frames) fs
  pub count : length fs ≡ n
  pub enough : n ≤ length p.frames
