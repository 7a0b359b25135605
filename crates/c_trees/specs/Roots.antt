-- Roots as they are handed in, which of them can be, and their pages.
use Rattle.std.specs.Prelude.{◌≡◌, ℕ, zero, suc, ◌+◌, ◌-◌, ◌^◌, ◌<◌, ◌≤◌, ◌==◌, ◌||◌, Bool, List, [], ◌++◌, All, IsSome, IsTrue, Option, Some, None, option_to_list, if◌then◌else◌}
use Rattle.page_state.specs.declared.layout.Geometry.{Geometry}
use Rattle.page_state.specs.Geometries.{levels_below}
use Rattle.table_words.specs.declared.profile.Profile.{Profile}
use Rattle.table_words.specs.Profiles.{model_profile}
use Rattle.walked_tables.specs.declared.follow.TablePage.{TablePage}
use Rattle.walked_tables.specs.ByFrames.{page_of}
use Rattle.c_profiles.specs.Numbers.{profile_from_c}
use Rattle.c_trees.specs.declared.root.PlainRange.{PlainRange}
use Rattle.c_trees.specs.declared.root.PlainRoot.{PlainRoot}
use Rattle.c_trees.specs.declared.root.RootFault.{RootFault}
use Rattle.c_trees.specs.declared.root.RootFault.TheVariants.{Profile as NoProfile, Levels, Pages, Skips}

-- a range that is left out has a page, and ends by page 2^52
pub record IsLowRange (r : PlainRange) : Type 0 where
  pub some : 0 < r.count
  pub low : r.first + r.count ≤ 2 ^ 52

-- how many pages a root may have; 0 is 1
abbrev pub is_page_count : ℕ → Bool
is_page_count n = ((((n == 0 || n == 1) || n == 2) || n == 4) || n == 8) || n == 16

abbrev pub count_of : PlainRoot → ℕ
count_of root = if root.pages == 0 then 1 else root.pages

-- the levels below the root's: those of its own number of levels, or of the layout's geometry
abbrev pub depth_of : Geometry → PlainRoot → ℕ
depth_of g root = if root.levels == 0 then levels_below g else root.levels - 1

abbrev pub or_model : Option Profile → Profile
or_model None = model_profile
or_model (Some profile) = profile

-- the profile of its words
abbrev pub profile_in : PlainRoot → Profile
profile_in root = or_model (profile_from_c root.tree root.profile)

abbrev pub HasProfile : PlainRoot → Type 0
HasProfile root = IsSome (profile_from_c root.tree root.profile)

abbrev pub HasLevels : PlainRoot → Type 0
HasLevels root = root.levels ≤ 4

-- its pages have frames of 64 bits
abbrev pub HasLowFrames : PlainRoot → Type 0
HasLowFrames root = root.frame + count_of root ≤ 2 ^ 64

pub record HasCount (root : PlainRoot) : Type 0 where
  pub count : IsTrue (is_page_count root.pages)
  pub low : HasLowFrames root

abbrev pub HasRanges : PlainRoot → Type 0
HasRanges root = All IsLowRange root.skips.now

-- a root can be
pub record IsGoodRoot (root : PlainRoot) : Type 0 where
  pub profile : HasProfile root
  pub levels : HasLevels root
  pub pages : HasCount root
  pub skips : HasRanges root

-- or it can't: the fault is true of it, and none before it is
abbrev pub IsRootFault : PlainRoot → RootFault → Type 0
IsRootFault root NoProfile = HasProfile root → ⊥
IsRootFault root Levels = HasProfile root × (HasLevels root → ⊥)
IsRootFault root Pages = HasProfile root × HasLevels root × (HasCount root → ⊥)
IsRootFault root Skips = HasProfile root × HasLevels root × HasCount root × (HasRanges root → ⊥)

-- the pages of `n` frames from one on, in order
abbrev pub pages_from : List TablePage → ℕ → ℕ → List TablePage
pages_from pages frame zero = []
pages_from pages frame (suc n) =
    option_to_list (page_of pages frame) ++ pages_from pages (frame + 1) n

-- the pages of a root
abbrev pub root_pages : List TablePage → PlainRoot → List TablePage
root_pages pages root = pages_from pages root.frame (count_of root)

-- each of its frames has a page
abbrev pub HasPages : List TablePage → PlainRoot → Type 0
HasPages pages root = (k : ℕ) → k < count_of root → IsSome (page_of pages (root.frame + k))
