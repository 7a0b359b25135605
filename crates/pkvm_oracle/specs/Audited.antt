-- What the audit of tables answers C.
use Rattle.std.specs.Prelude.{◌≡◌, ◌⊎◌, ◌↔◌, ◌<◌, ◌-◌, ◌/◌, ◌==◌, ◌&&◌, ℕ, zero, suc, ℤ, pos, negsuc, Bool, List, length, take, drop, AllPairs, IfSome, Option, Some, None, not, nat_lt, if◌then◌else◌}
use Rattle.page_state.specs.declared.layout.Geometry.{Geometry}
use Rattle.page_state.specs.declared.layout.Geometry.TheVariants.{Bits39, Bits48}
use Rattle.page_state.specs.LayoutView.{layout_of}
use Rattle.page_state.specs.Layouts.{Layout}
use Rattle.page_state.specs.Map.{Map}
use Rattle.page_state.specs.Trees.{Tree, no_tree}
use Rattle.reference_model.specs.model.State.{Contents}
use Rattle.ghost_spec.specs.declared.lists.GhostLists.{GhostLists}
use Rattle.ghost_spec.specs.States.{contents_in}
use Rattle.c_states.specs.declared.layout.PlainLayout.{PlainLayout}
use Rattle.c_states.specs.declared.layout.PlainRegion.{PlainRegion}
use Rattle.c_states.specs.Faults.{AreTaken}
use Rattle.c_states.specs.Judged.{IsUnmade}
use Rattle.c_states.specs.Layouts.{layout_from_c, IsTakenLayout}
use Rattle.c_states.specs.States.{Lists, contents_from_c}
use Rattle.walked_tables.specs.declared.follow.TablePage.{TablePage}
use Rattle.walked_tables.specs.declared.reached.Reached.{Reached}
use Rattle.walked_tables.specs.Reached.{AreOtherFrames}
use Rattle.c_trees.specs.declared.root.PlainRoot.{PlainRoot}
use Rattle.c_trees.specs.declared.root.RootFault.{RootFault}
use Rattle.c_trees.specs.declared.root.RootFault.TheVariants as roots
use Rattle.c_trees.specs.declared.trees.TreeFault.{TreeFault}
use Rattle.c_trees.specs.declared.trees.TreeFault.TheVariants as trees
use Rattle.c_trees.specs.Entries.{kept_map}
use Rattle.c_trees.specs.Given.{all_tables, tree_of, AreGiven, IsTreeFault}
use Rattle.table_audit.specs.declared.finding.Finding.{Finding}
use Rattle.table_audit.specs.Audited.{IsFirstFinding, IsWell}
use Rattle.table_audit.specs.Found.{found}
use Rattle.table_audit.specs.Texts.{text_of_finding}
use Rattle.pkvm_oracle.specs.declared.audited.Unchecked.{Unchecked}
use Rattle.pkvm_oracle.specs.declared.audited.Unchecked.TheVariants.{Kept, Trees, NoMemory}
use Rattle.pkvm_oracle.specs.declared.judged.PlainRefused.{PlainRefused}
use Rattle.pkvm_oracle.specs.Refusals.{of_fault, refused_by_made, status_by_made}

-- the geometry of a layout
abbrev pub geometry_from_c : PlainLayout → Geometry
geometry_from_c l = if l.address_bits == 48 then Bits48 else Bits39

-- the trees by their numbers, of which there are 66, by the kept maps
abbrev pub trees_from_c : Geometry → List TablePage → List PlainRoot → (ℕ → Map) → ℕ → Tree
trees_from_c g pages roots kept n =
    if nat_lt n 66 then tree_of g pages roots kept n else no_tree

-- the state found: the kept contents with these trees, and the owner rows that follow
abbrev pub found_from_c : Layout → Contents → Geometry → List TablePage → List PlainRoot → Contents
found_from_c l kept g pages roots = found l kept (trees_from_c g pages roots (kept_map kept))

-- a state is checked: no table is reached twice, and no finding is given if and only if all agrees
-- and the state is legal; else the first difference, or why it isn't legal
pub record IsCheckedIn (l : Layout) (kept : Contents) (g : Geometry) (pages : List TablePage)
    (roots : List PlainRoot) (told : Option Finding) : Type 0 where
  pub given : AreGiven pages roots
  pub once : AllPairs AreOtherFrames (all_tables g pages roots)
  pub none : (told ≡ None) ↔ IsWell l kept (found_from_c l kept g pages roots)
  pub first : IfSome told (IsFirstFinding l kept (found_from_c l kept g pages roots))

-- a state on lists
abbrev pub IsCheckedFrom : GhostLists → List TablePage → List PlainRoot → Option Finding → Type 0
IsCheckedFrom kept pages roots told =
    IsCheckedIn (layout_of kept.layout) (contents_in kept) kept.layout.geometry pages roots told

-- and one on plain lists, which make it
pub record IsChecked (l : PlainLayout) (regions : List PlainRegion) (kept : Lists)
    (pages : List TablePage) (roots : List PlainRoot) (told : Option Finding) : Type 0 where
  pub layout : IsTakenLayout l regions
  pub taken : AreTaken l.cpus kept
  pub checked : IsCheckedIn (layout_from_c l regions) (contents_from_c kept)
      (geometry_from_c l) pages roots told

-- why it isn't checked, if the kept state is valid
abbrev pub IsUncheckedFrom : Geometry → List TablePage → List PlainRoot → Unchecked → Type 0
IsUncheckedFrom g pages roots (Kept why) = ⊥
IsUncheckedFrom g pages roots (Trees fault) = IsTreeFault g pages roots fault
IsUncheckedFrom g pages roots NoMemory = Unit {0}

-- and why it isn't: the first that is true
abbrev pub IsUnchecked : PlainLayout → List PlainRegion → Lists → List TablePage → List PlainRoot
    → Unchecked → Type 0
IsUnchecked l regions kept pages roots (Kept why) = IsUnmade l regions kept why
IsUnchecked l regions kept pages roots (Trees fault) =
    IsTakenLayout l regions
    × AreTaken l.cpus kept
    × IsTreeFault (geometry_from_c l) pages roots fault
IsUnchecked l regions kept pages roots NoMemory = Unit {0}

-- the number of the block that is so many levels up and has the block in it
abbrev pub parent : ℕ → ℕ → ℕ
parent zero index = index
parent (suc n) index = parent n index / 512

-- a table's block lies in another's, which is larger
abbrev pub is_in_block : Reached → Reached → Bool
is_in_block upper lower =
    nat_lt lower.depth upper.depth
    && parent (upper.depth - lower.depth) lower.number == upper.number

-- a table that is reached again: below itself, at another level, or at this level a second time
abbrev pub fault_again : Reached → Reached → ℕ
fault_again first second =
    if first.tree == second.tree && is_in_block first second then 20
    else if not (first.depth == second.depth) then 21 else 22

abbrev pub fault_of_root : RootFault → ℕ
fault_of_root roots.Profile = 27
fault_of_root roots.Levels = 28
fault_of_root roots.Pages = 29
fault_of_root roots.Skips = 30

abbrev pub refused_by_trees : TreeFault → PlainRefused
refused_by_trees (trees.Short i) = record { fault = 15; list = 9; index = i }
refused_by_trees (trees.PageTwice i) = record { fault = 16; list = 9; index = i }
refused_by_trees (trees.NoTree i) = record { fault = 17; list = 10; index = i }
refused_by_trees (trees.RootTwice i) = record { fault = 18; list = 10; index = i }
refused_by_trees (trees.BadRoot i fault) =
    record { fault = fault_of_root fault; list = 10; index = i }
refused_by_trees (trees.NoPage i) = record { fault = 19; list = 10; index = i }
refused_by_trees (trees.Again first second) =
    record { fault = fault_again first second; list = second.tree; index = second.frame }
refused_by_trees trees.NoMemory = of_fault 0

abbrev pub status_by_trees : TreeFault → ℤ
status_by_trees trees.NoMemory = negsuc 11
status_by_trees other = negsuc 12

abbrev pub refused_by_audit : Unchecked → PlainRefused
refused_by_audit (Kept why) = refused_by_made why
refused_by_audit (Trees fault) = refused_by_trees fault
refused_by_audit NoMemory = of_fault 0

-- of the layout -8, of the kept state -9, of pages and roots -13, and -12 if memory ran out
abbrev pub status_by_audit : Unchecked → ℤ
status_by_audit (Kept why) = status_by_made (negsuc 8) why
status_by_audit (Trees fault) = status_by_trees fault
status_by_audit NoMemory = negsuc 11

module _ (layout : PlainLayout) (regions : List PlainRegion) (kept : Lists)
    (pages : List TablePage) (roots : List PlainRoot) where
  -- nothing is found, and nothing written
  pub record Agrees (old new : List ℕ) (count : ℕ) (refused : PlainRefused)
      (status : ℤ) : Type 0 where
    pub checked : IsChecked layout regions kept pages roots None
    pub status_is : status ≡ pos 0
    pub count_is : count ≡ 0
    pub refused_is : refused ≡ of_fault 0
    pub text : new ≡ old

  -- a difference or a fault is found, and written as text
  pub record Differs (old new : List ℕ) (count : ℕ) (refused : PlainRefused)
      (status : ℤ) : Type 0 where
    pub found_is : Finding
    pub checked : IsChecked layout regions kept pages roots (Some found_is)
    pub status_is : status ≡ pos 1
    pub count_is : count ≡ length (text_of_finding found_is)
    pub refused_is : refused ≡ of_fault 0
    pub text : take count new ≡ text_of_finding found_is
    pub behind : drop count new ≡ drop count old

  -- a difference or a fault is found, and its text has no room
  pub record HasNoRoom (old new : List ℕ) (count : ℕ) (refused : PlainRefused)
      (status : ℤ) : Type 0 where
    pub found_is : Finding
    pub checked : IsChecked layout regions kept pages roots (Some found_is)
    pub status_is : status ≡ negsuc 1
    pub count_is : count ≡ length (text_of_finding found_is)
    pub refused_is : refused ≡ of_fault 0
    pub less : length old < count
    pub text : new ≡ old

  -- there is no audit, and nothing is written
  pub record IsRefused (old new : List ℕ) (count : ℕ) (refused : PlainRefused)
      (status : ℤ) : Type 0 where
    pub why : Unchecked
    pub unchecked : IsUnchecked layout regions kept pages roots why
    pub status_is : status ≡ status_by_audit why
    pub count_is : count ≡ 0
    pub refused_is : refused ≡ refused_by_audit why
    pub text : new ≡ old

  -- one of these
  abbrev pub IsAudited : List ℕ → List ℕ → ℕ → PlainRefused → ℤ → Type 0
  IsAudited old new count refused status =
      Agrees old new count refused status
      ⊎ (Differs old new count refused status
      ⊎ (HasNoRoom old new count refused status ⊎ IsRefused old new count refused status))
