-- Tables that differ.
use Rattle.std.specs.Prelude.{◌≡◌, ◌≢◌, ℕ, List, Option}
use Rattle.page_state.specs.Trees.{Block}
use Rattle.ghost_judge.specs.declared.disagreement.TreeOf.{TreeOf}
use Rattle.ghost_trees.specs.declared.tree.Table.{Table}
use Rattle.ghost_trees.specs.Trees.{table_of}
use Rattle.table_audit.specs.declared.finding.Finding.{Finding}
use Rattle.table_audit.specs.declared.finding.Finding.TheVariants.{Differs, Table as TableDiffers, Unsound, Illegal}

-- two lists have other frames at a block
abbrev pub IsTableApart : List Table → List Table → Block → Type 0
IsTableApart a b block = table_of a block ≢ table_of b block

-- a table of a tree differs, as the finding reports
pub record IsTableReported (kept walked : Block → Option ℕ) (block : Block)
    (x y : Option ℕ) : Type 0 where
  pub apart : kept block ≢ walked block
  pub kept_is : x ≡ kept block
  pub walked_is : y ≡ walked block

abbrev pub IsTableFinding : TreeOf → (Block → Option ℕ) → (Block → Option ℕ) → Finding → Type 0
IsTableFinding tree kept walked (Differs d) = ⊥
IsTableFinding tree kept walked (Unsound why) = ⊥
IsTableFinding tree kept walked (Illegal why) = ⊥
IsTableFinding tree kept walked (TableDiffers of height index x y) =
    (of ≡ tree) × IsTableReported kept walked (height, index) x y
