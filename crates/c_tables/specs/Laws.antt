-- Pages and roots make trees, or have one fault.
use Rattle.std.specs.Prelude.{◌≡◌, ◌⊎◌, ℕ, List}
use Rattle.page_state.specs.declared.layout.Geometry.{Geometry}
use Rattle.page_state.specs.Trees.{Tree}
use Rattle.c_tables.specs.declared.follow.PlainPage.{PlainPage}
use Rattle.c_tables.specs.declared.follow.PlainRoot.{PlainRoot}
use Rattle.c_tables.specs.declared.trees.TreeFault.{TreeFault}
use Rattle.c_tables.specs.declared.trees.TreeFault.TheVariants.{NoMemory}
use Rattle.c_tables.specs.Given.{AreTrees, IsTreeFault}

-- pages and roots that make trees have no fault, unless memory runs out
abbrev pub TreesElse : Type 0
TreesElse =
    (g : Geometry) (pages : List PlainPage) (roots : List PlainRoot) (trees : ℕ → Tree)
    (f : TreeFault)
    → AreTrees g pages roots trees
    → IsTreeFault g pages roots f
    → f ≡ NoMemory

-- no two others are both the first
abbrev pub TreeFaultOnce : Type 0
TreeFaultOnce =
    (g : Geometry) (pages : List PlainPage) (roots : List PlainRoot) (f h : TreeFault)
    → IsTreeFault g pages roots f
    → IsTreeFault g pages roots h
    → (f ≡ NoMemory) ⊎ ((h ≡ NoMemory) ⊎ (f ≡ h))
