-- How it is written why a state isn't sound: frames and pages in hexadecimal.
use Rattle.std.specs.Prelude.{ℕ, zero, suc, List, ◌++◌, codes}
use Rattle.page_state.specs.Texts.{text_of_page}
use Rattle.ghost_judge.specs.declared.disagreement.TreeOf.{TreeOf}
use Rattle.ghost_judge.specs.declared.disagreement.TreeOf.TheVariants.{Host, Hyp, Guest}
use Rattle.ghost_judge.specs.Texts.{text_of_tree}
use Rattle.ghost_sound.specs.declared.finding.Place.{Place}
use Rattle.ghost_sound.specs.declared.finding.Unsound.{Unsound}
use Rattle.ghost_sound.specs.declared.finding.Unsound.TheVariants.{TwoOwners, TwoBorrowers, NoShare}

-- the tree of a number
abbrev pub tree_named : ℕ → TreeOf
tree_named zero = Host
tree_named (suc zero) = Hyp
tree_named (suc (suc v)) = Guest v

abbrev pub text_of_place : Place → List ℕ
text_of_place p = text_of_tree (tree_named p.tree) ++ codes " " ++ text_of_page p.page.0

abbrev pub text_of_unsound : Unsound → List ℕ
text_of_unsound (TwoOwners f one other) =
    codes "two owners " ++ text_of_page f ++ codes ": " ++ text_of_place one ++ codes ", "
    ++ text_of_place other
text_of_unsound (TwoBorrowers f one other) =
    codes "two borrowers " ++ text_of_page f ++ codes ": " ++ text_of_place one ++ codes ", "
    ++ text_of_place other
text_of_unsound (NoShare f at) =
    codes "no share " ++ text_of_page f ++ codes ": " ++ text_of_place at
