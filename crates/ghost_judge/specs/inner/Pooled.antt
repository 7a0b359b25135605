-- The results of parts of a comparison of pools and tables.
use Rattle.std.specs.Prelude.{◌≡◌, ℕ, Option, MatchOption}
use Rattle.page_state.specs.Trees.{Block, Pool}
use Rattle.ghost_judge.specs.declared.disagreement.PartDifference.{PartDifference}
use Rattle.ghost_judge.specs.declared.disagreement.PartDifference.TheVariants.{Free, Table}
use Rattle.ghost_judge.specs.declared.disagreement.TreeOf.{TreeOf}
use Rattle.ghost_judge.specs.PartDifferences.{IsFirstFrame, IsFirstTable}

-- the first tables that differ, as those of a tree
abbrev pub IsTableDifference : TreeOf → (Block → Option ℕ) → (Block → Option ℕ) → PartDifference
    → Type 0
IsTableDifference tree post spec d =
    (b : Block) × (x : Option ℕ) × (y : Option ℕ)
    × (d ≡ Table tree b x y)
    × IsFirstTable post spec b x y

-- the first frames
abbrev pub IsFrameDifference : Pool → Pool → PartDifference → Type 0
IsFrameDifference post spec d =
    (x : Option ℕ) × (y : Option ℕ) × (d ≡ Free x y) × IsFirstFrame post spec x y

-- the first difference of two trees' tables, or that they are equal
abbrev pub IsFoundInTables : TreeOf → (Block → Option ℕ) → (Block → Option ℕ)
    → Option PartDifference → Type 0
IsFoundInTables tree post spec o =
    MatchOption o (post ≡ spec) (IsTableDifference tree post spec)

-- that of two pools
abbrev pub IsFoundInFrames : Pool → Pool → Option PartDifference → Type 0
IsFoundInFrames post spec o = MatchOption o (post ≡ spec) (IsFrameDifference post spec)
