-- Pages and roots as they are handed in, how they are refused, and the trees of those that aren't.
use Rattle.std.specs.Prelude.{◌≡◌, ℕ, zero, suc, ◌+◌, ◌<◌, ◌==◌, Bool, true, false, List, [], ◌++◌, AllPairs, All, IsSome, length, take, find, slice_get, Option, Some, None, option_and_then}
use Rattle.std.specs.List.{list_any}
use Rattle.page_state.specs.declared.layout.Geometry.{Geometry}
use Rattle.page_state.specs.Trees.{Tree, no_tree}
use Rattle.c_tables.specs.declared.follow.PlainPage.{PlainPage}
use Rattle.c_tables.specs.declared.follow.PlainRoot.{PlainRoot}
use Rattle.c_tables.specs.declared.reached.Reached.{Reached}
use Rattle.c_tables.specs.declared.reached.Stopped.{Stopped}
use Rattle.c_tables.specs.declared.reached.Stopped.TheVariants as stopped
use Rattle.c_tables.specs.declared.trees.TreeFault.{TreeFault}
use Rattle.c_tables.specs.declared.trees.TreeFault.TheVariants.{Short, PageTwice, NoTree, RootTwice, NoPage, Again, NoMemory}
use Rattle.c_tables.specs.ByFrames.{IsWhole, led_case, page_of, tables_by_frames, tree_by_frames}
use Rattle.c_tables.specs.Reached.{IsAgain, AreOtherFrames}

-- the member at an index, if there is one, has a number of an earlier one
abbrev pub again_with : {X : Type 0} → (X → ℕ) → List X → Option X → Bool
again_with number earlier None = false
again_with number earlier (Some x) = list_any (λ e. number e == number x) earlier

abbrev pub is_again : {X : Type 0} → (X → ℕ) → List X → ℕ → Bool
is_again number members i = again_with number (take i members) (slice_get members i)

-- it is the first that has
pub record IsRepeated {X : Type 0} (number : X → ℕ) (members : List X) (i : ℕ) : Type 0 where
  pub again : is_again number members i ≡ true
  pub before : (j : ℕ) → j < i → is_again number members j ≡ false

-- the member at an index is the first that isn't as it has to be
pub record IsOther {X : Type 0} (P : X → Type 0) (members : List X) (i : ℕ) : Type 0 where
  pub member : X
  pub is : slice_get members i ≡ Some member
  pub not : P member → ⊥
  pub before : All P (take i members)

-- a page hasn't 512 words
abbrev pub IsShort : List PlainPage → ℕ → Type 0
IsShort pages = IsOther IsWhole pages

-- the tree of a root can be
abbrev pub IsKnown : PlainRoot → Type 0
IsKnown root = root.tree < 66

-- it can't
abbrev pub IsStrange : List PlainRoot → ℕ → Type 0
IsStrange roots = IsOther IsKnown roots

-- the frame of a root has a page
abbrev pub HasPage : List PlainPage → PlainRoot → Type 0
HasPage pages root = IsSome (page_of pages root.frame)

-- it has none
abbrev pub IsRootless : List PlainPage → List PlainRoot → ℕ → Type 0
IsRootless pages roots = IsOther (HasPage pages) roots

-- no two members have a number
abbrev pub AreNumberedApart : {X : Type 0} → (X → ℕ) → List X → Type 0
AreNumberedApart number members = (i : ℕ) → i < length members → is_again number members i ≡ false

-- pages and roots that aren't refused
pub record AreGiven (pages : List PlainPage) (roots : List PlainRoot) : Type 0 where
  pub whole : All IsWhole pages
  pub frames : AreNumberedApart (λ p. p.frame) pages
  pub known : All IsKnown roots
  pub trees : AreNumberedApart (λ r. r.tree) roots
  pub root_pages : All (HasPage pages) roots

-- the root of a tree
abbrev pub root_in : List PlainRoot → ℕ → Option PlainRoot
root_in roots tree = find (λ r. r.tree == tree) roots

-- the page of a tree's root, if it has one
abbrev pub root_of : List PlainPage → List PlainRoot → ℕ → Option PlainPage
root_of pages roots tree = option_and_then (λ r. page_of pages r.frame) (root_in roots tree)

module _ (geometry : Geometry) (pages : List PlainPage) (roots : List PlainRoot) where
  -- the tree of a number; one without a root has no table
  abbrev pub tree_of : ℕ → Tree
  tree_of tree = led_case no_tree (tree_by_frames geometry pages tree) (root_of pages roots tree)

  -- its tables
  abbrev pub tables_of : ℕ → List Reached
  tables_of tree = led_case [] (tables_by_frames geometry pages tree) (root_of pages roots tree)

  -- those of `n` trees from a number on
  unfoldable pub tables_from : ℕ → ℕ → List Reached
  tables_from zero tree = []
  tables_from (suc n) tree = tables_of tree ++ tables_from n (tree + 1)

  -- those of all trees, in order
  abbrev pub all_tables : List Reached
  all_tables = tables_from 66 0

  -- pages and roots make no trees: the fault is true of them, and all that is tested before it is
  -- well
  abbrev pub IsTreeFault : TreeFault → Type 0
  IsTreeFault (Short i) = IsShort pages i
  IsTreeFault (PageTwice i) = All IsWhole pages × IsRepeated (λ p. p.frame) pages i
  IsTreeFault (NoTree i) =
      All IsWhole pages × AreNumberedApart (λ p. p.frame) pages × IsStrange roots i
  IsTreeFault (RootTwice i) =
      All IsWhole pages
      × AreNumberedApart (λ p. p.frame) pages
      × All IsKnown roots
      × IsRepeated (λ r. r.tree) roots i
  IsTreeFault (NoPage i) =
      All IsWhole pages
      × AreNumberedApart (λ p. p.frame) pages
      × All IsKnown roots
      × AreNumberedApart (λ r. r.tree) roots
      × IsRootless pages roots i
  IsTreeFault (Again first second) = AreGiven pages roots × IsAgain all_tables first second
  IsTreeFault NoMemory = Unit {0}

  -- they make these, and no table is reached twice
  pub record AreTrees (trees : ℕ → Tree) : Type 0 where
    pub given : AreGiven pages roots
    pub once : AllPairs AreOtherFrames all_tables
    pub trees_are : (tree : ℕ) → tree < 66 → trees tree ≡ tree_of tree

-- the fault of a walk that ends early
abbrev pub fault_of : Stopped → TreeFault
fault_of (stopped.Again first second) = Again first second
fault_of stopped.NoMemory = NoMemory
