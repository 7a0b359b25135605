-- An audited state isn't refused, and has one answer; a refused one has one reason.
use Rattle.std.specs.Prelude.{◌≡◌, ◌⊎◌, List, Option, Some, None}
use Rattle.c_states.specs.declared.layout.PlainLayout.{PlainLayout}
use Rattle.c_states.specs.declared.layout.PlainRegion.{PlainRegion}
use Rattle.c_states.specs.Laws.{MadeLacksMemory}
use Rattle.c_states.specs.States.{Lists}
use Rattle.walked_tables.specs.declared.follow.TablePage.{TablePage}
use Rattle.c_trees.specs.declared.root.PlainRoot.{PlainRoot}
use Rattle.c_trees.specs.declared.trees.TreeFault.TheVariants as trees
use Rattle.table_audit.specs.declared.finding.Finding.{Finding}
use Rattle.table_audit.specs.Laws.{AreAlike}
use Rattle.pkvm_oracle.specs.declared.audited.Unchecked.{Unchecked}
use Rattle.pkvm_oracle.specs.declared.audited.Unchecked.TheVariants.{Kept, Trees, NoMemory}
use Rattle.pkvm_oracle.specs.Audited.{IsChecked, IsUnchecked}

-- memory ran out
abbrev pub LacksMemory : Unchecked → Type 0
LacksMemory (Kept why) = MadeLacksMemory why
LacksMemory (Trees fault) = fault ≡ trees.NoMemory
LacksMemory NoMemory = Unit {0}

-- an audit that is made is refused only if memory runs out
abbrev pub CheckedElse : Type 0
CheckedElse =
    (l : PlainLayout) (regions : List PlainRegion) (kept : Lists) (pages : List TablePage)
    (roots : List PlainRoot) (told : Option Finding) (why : Unchecked)
    → IsChecked l regions kept pages roots told
    → IsUnchecked l regions kept pages roots why
    → LacksMemory why

-- two answers are alike
abbrev pub AreAlikeIn : Option Finding → Option Finding → Type 0
AreAlikeIn None None = Unit {0}
AreAlikeIn (Some f) (Some g) = AreAlike f g
AreAlikeIn found other = ⊥

-- an audit has one answer, but for which block of a tree or which places it names
abbrev pub CheckedOnce : Type 0
CheckedOnce =
    (l : PlainLayout) (regions : List PlainRegion) (kept : Lists) (pages : List TablePage)
    (roots : List PlainRoot) (f g : Option Finding)
    → IsChecked l regions kept pages roots f
    → IsChecked l regions kept pages roots g
    → AreAlikeIn f g

-- and one that isn't made has one reason
abbrev pub UncheckedOnce : Type 0
UncheckedOnce =
    (l : PlainLayout) (regions : List PlainRegion) (kept : Lists) (pages : List TablePage)
    (roots : List PlainRoot) (f g : Unchecked)
    → IsUnchecked l regions kept pages roots f
    → IsUnchecked l regions kept pages roots g
    → LacksMemory f ⊎ (LacksMemory g ⊎ (f ≡ g))
