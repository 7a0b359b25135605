-- Pages and roots make trees, or have one fault; and a root of zeros is the root of the model's own
-- tree.
use Rattle.std.specs.Prelude.{◌≡◌, ◌⊎◌, ℕ, [], List, map, All, Some}
use Rattle.page_state.specs.declared.layout.Geometry.{Geometry}
use Rattle.page_state.specs.Map.{Map}
use Rattle.page_state.specs.Trees.{Tree}
use Rattle.c_tables.specs.ByFrames.{tree_by_frames}
use Rattle.walked_tables.specs.declared.follow.TablePage.{TablePage}
use Rattle.walked_tables.specs.ByFrames.{page_of}
use Rattle.walked_tables.specs.Own.{as_plain, HasWords}
use Rattle.c_trees.specs.declared.root.PlainRoot.{PlainRoot}
use Rattle.c_trees.specs.declared.trees.TreeFault.{TreeFault}
use Rattle.c_trees.specs.declared.trees.TreeFault.TheVariants.{NoMemory}
use Rattle.c_trees.specs.Given.{AreTrees, IsTreeFault}
use Rattle.c_trees.specs.Trees.{tree_by_root}

-- pages and roots that make trees have no fault, unless memory runs out
abbrev pub TreesElse : Type 0
TreesElse =
    (g : Geometry) (pages : List TablePage) (roots : List PlainRoot) (kept : ℕ → Map)
    (trees : ℕ → Tree) (f : TreeFault)
    → AreTrees g pages roots kept trees
    → IsTreeFault g pages roots f
    → f ≡ NoMemory

-- no two others are both the first
abbrev pub TreeFaultOnce : Type 0
TreeFaultOnce =
    (g : Geometry) (pages : List TablePage) (roots : List PlainRoot) (f h : TreeFault)
    → IsTreeFault g pages roots f
    → IsTreeFault g pages roots h
    → (f ≡ NoMemory) ⊎ ((h ≡ NoMemory) ⊎ (f ≡ h))

-- a root with zeros behind its frame
pub record IsOwnRoot (root : PlainRoot) : Type 0 where
  pub profile : root.profile ≡ 0
  pub levels : root.levels ≡ 0
  pub pages : root.pages ≡ 0
  pub skips : root.skips.now ≡ []

-- its tree is that of the model's own words, whatever is kept
abbrev pub OwnTree : Type 0
OwnTree =
    (g : Geometry) (pages : List TablePage) (root : PlainRoot) (page : TablePage) (kept : Map)
    → IsOwnRoot root
    → page_of pages root.frame ≡ Some page
    → All HasWords pages
    → HasWords page
    → tree_by_root g pages root kept
    ≡ tree_by_frames g (map as_plain pages) root.tree (as_plain page)
