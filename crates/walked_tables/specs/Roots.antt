-- The pages of a root, which lie one after the other.
use Rattle.std.specs.Prelude.{◌≡◌, ℕ, ◌+◌, ◌<◌, List, length, slice_get, None}
use Rattle.walked_tables.specs.declared.follow.TablePage.{TablePage}
use Rattle.walked_tables.specs.ByFrames.{page_of}

-- the pages of `count` frames from one on, in order
pub record AreRootPages (pages : List TablePage) (frame count : ℕ)
    (roots : List TablePage) : Type 0 where
  pub all : length roots ≡ count
  pub each : (k : ℕ) → k < count → page_of pages (frame + k) ≡ slice_get roots k

-- one of these frames has no page
pub record IsRootless (pages : List TablePage) (frame count : ℕ) : Type 0 where
  pub place : ℕ
  pub within : place < count
  pub none : page_of pages (frame + place) ≡ None
