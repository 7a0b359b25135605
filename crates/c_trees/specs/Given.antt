-- Pages and roots as they are handed in, how they are refused, and the trees of those that aren't.
use Rattle.std.specs.Prelude.{◌≡◌, ℕ, zero, suc, ◌+◌, ◌<◌, ◌==◌, Bool, true, false, List, [], ◌++◌, AllPairs, All, length, take, find, slice_get, Option, Some, None}
use Rattle.std.specs.List.{list_any}
use Rattle.page_state.specs.declared.layout.Geometry.{Geometry}
use Rattle.page_state.specs.Map.{Map}
use Rattle.page_state.specs.Trees.{Tree, no_tree}
use Rattle.walked_tables.specs.declared.follow.TablePage.{TablePage}
use Rattle.walked_tables.specs.declared.reached.Reached.{Reached}
use Rattle.walked_tables.specs.declared.reached.Stopped.{Stopped}
use Rattle.walked_tables.specs.declared.reached.Stopped.TheVariants as stopped
use Rattle.walked_tables.specs.ByFrames.{IsWhole}
use Rattle.walked_tables.specs.Reached.{IsAgain, AreOtherFrames}
use Rattle.c_trees.specs.declared.root.PlainRoot.{PlainRoot}
use Rattle.c_trees.specs.declared.root.RootFault.{RootFault}
use Rattle.c_trees.specs.declared.trees.TreeFault.{TreeFault}
use Rattle.c_trees.specs.declared.trees.TreeFault.TheVariants.{Short, PageTwice, NoTree, RootTwice, BadRoot, NoPage, Again, NoMemory}
use Rattle.c_trees.specs.Roots.{IsGoodRoot, IsRootFault, HasPages}
use Rattle.c_trees.specs.Trees.{tables_by_root, tree_by_root}

-- the member at an index, if there is one, has a number of an earlier one
abbrev pub again_with : {X : Type 0} → (X → ℕ) → List X → Option X → Bool
again_with number earlier None = false
again_with number earlier (Some x) = list_any (λ e. number e == number x) earlier

abbrev pub is_again : {X : Type 0} → (X → ℕ) → List X → ℕ → Bool
is_again number members i = again_with number (take i members) (slice_get members i)

-- it is the first that has
pub record IsRepeated {X : Type 0} (number : X → ℕ) (members : List X) (i : ℕ) : Type 0 where
  pub again : is_again number members i ≡ true
  pub before : (j : ℕ) → j < i → is_again number members j ≡ false

-- the member at an index is the first that isn't as it has to be
pub record IsOther {X : Type 0} (P : X → Type 0) (members : List X) (i : ℕ) : Type 0 where
  pub member : X
  pub is : slice_get members i ≡ Some member
  pub not : P member → ⊥
  pub before : All P (take i members)

-- a page hasn't 512 words
abbrev pub IsShort : List TablePage → ℕ → Type 0
IsShort pages = IsOther IsWhole pages

-- the tree of a root can be
abbrev pub IsKnown : PlainRoot → Type 0
IsKnown root = root.tree < 66

-- it can't
abbrev pub IsStrange : List PlainRoot → ℕ → Type 0
IsStrange roots = IsOther IsKnown roots

-- the root at an index is the first that can't be, for this reason
pub record IsBadRoot (roots : List PlainRoot) (i : ℕ) (fault : RootFault) : Type 0 where
  pub root : PlainRoot
  pub is : slice_get roots i ≡ Some root
  pub told : IsRootFault root fault
  pub before : All IsGoodRoot (take i roots)

-- a frame of a root has no page
abbrev pub IsRootless : List TablePage → List PlainRoot → ℕ → Type 0
IsRootless pages roots = IsOther (HasPages pages) roots

-- no two members have a number
abbrev pub AreNumberedApart : {X : Type 0} → (X → ℕ) → List X → Type 0
AreNumberedApart number members = (i : ℕ) → i < length members → is_again number members i ≡ false

-- pages are whole, and have different frames
pub record ArePages (pages : List TablePage) : Type 0 where
  pub whole : All IsWhole pages
  pub frames : AreNumberedApart (λ p. p.frame) pages

-- roots are of different trees that can be
pub record AreRoots (roots : List PlainRoot) : Type 0 where
  pub known : All IsKnown roots
  pub trees : AreNumberedApart (λ r. r.tree) roots

-- pages and roots that aren't refused
pub record AreGiven (pages : List TablePage) (roots : List PlainRoot) : Type 0 where
  pub pages_are : ArePages pages
  pub roots_are : AreRoots roots
  pub good : All IsGoodRoot roots
  pub root_pages : All (HasPages pages) roots

-- the root of a tree
abbrev pub root_in : List PlainRoot → ℕ → Option PlainRoot
root_in roots tree = find (λ r. r.tree == tree) roots

-- `none` if there is no root, and else `some` of it
abbrev pub rooted : {R : Type 0} → R → (PlainRoot → R) → Option PlainRoot → R
rooted none some root = elim root [ None ↦ none | Some r ↦ some r ]

module _ (g : Geometry) (pages : List TablePage) (roots : List PlainRoot) where
  -- the tree of a number, by the kept map; one without a root has no table
  abbrev pub tree_of : (ℕ → Map) → ℕ → Tree
  tree_of kept tree =
      rooted no_tree (λ r. tree_by_root g pages r (kept tree)) (root_in roots tree)

  -- its tables
  abbrev pub tables_of : ℕ → List Reached
  tables_of tree = rooted [] (tables_by_root g pages) (root_in roots tree)

  -- those of `n` trees from a number on
  unfoldable pub tables_from : ℕ → ℕ → List Reached
  tables_from zero tree = []
  tables_from (suc n) tree = tables_of tree ++ tables_from n (tree + 1)

  -- those of all trees, in order
  abbrev pub all_tables : List Reached
  all_tables = tables_from 66 0

  -- pages and roots make no trees: the fault is true of them, and all that is tested before it is
  -- well
  abbrev pub IsTreeFault : TreeFault → Type 0
  IsTreeFault (Short i) = IsShort pages i
  IsTreeFault (PageTwice i) = All IsWhole pages × IsRepeated (λ p. p.frame) pages i
  IsTreeFault (NoTree i) = ArePages pages × IsStrange roots i
  IsTreeFault (RootTwice i) =
      ArePages pages × All IsKnown roots × IsRepeated (λ r. r.tree) roots i
  IsTreeFault (BadRoot i fault) = ArePages pages × AreRoots roots × IsBadRoot roots i fault
  IsTreeFault (NoPage i) =
      ArePages pages × AreRoots roots × All IsGoodRoot roots × IsRootless pages roots i
  IsTreeFault (Again first second) = AreGiven pages roots × IsAgain all_tables first second
  IsTreeFault NoMemory = Unit {0}

  -- they make these, and no table is reached twice
  pub record AreTrees (kept : ℕ → Map) (trees : ℕ → Tree) : Type 0 where
    pub given : AreGiven pages roots
    pub once : AllPairs AreOtherFrames all_tables
    pub trees_are : (tree : ℕ) → tree < 66 → trees tree ≡ tree_of kept tree

-- the fault of a walk that ends early
abbrev pub fault_of : Stopped → TreeFault
fault_of (stopped.Again first second) = Again first second
fault_of stopped.NoMemory = NoMemory
