-- The report on contents on a layout, from lists that represent them; and both forms of a legal
-- state.
use Rattle.std.specs.Prelude.{◌≡◌, Bool, true, false}
use Rattle.page_state.specs.Layouts.{Layout}
use Rattle.page_state.specs.LayoutView.{layout_of}
use Rattle.reference_model.specs.help.Conditions.{Legal}
use Rattle.reference_model.specs.model.State.{Contents}
use Rattle.ghost_spec.specs.declared.lists.GhostLists.{GhostLists}
use Rattle.ghost_spec.specs.States.{contents_in, IsKept}
use Rattle.ghost_legal.specs.declared.finding.Illegal.{Illegal}
use Rattle.ghost_legal.specs.Blocks.{TreesHaveFirstBlocks}
use Rattle.freedoms.specs.AnyTrees.{IsLegalButForTrees}
use Rattle.ghost_legal.specs.Illegals.{IsIllegal, IsIllegalButForTrees}

-- the state is legal; with false whatever tables its trees need
abbrev pub IsLegalBy : Bool → Layout → Contents → Type 0
IsLegalBy true l s = Legal l s
IsLegalBy false l s = IsLegalButForTrees l s

-- and why it isn't
abbrev pub IsIllegalBy : Bool → GhostLists → Illegal → Type 0
IsIllegalBy true g x = IsIllegal g x
IsIllegalBy false g x = IsIllegalButForTrees g x

-- why contents aren't legal: some lists say them, with each tree's tables at other blocks, and it
-- is told of these
pub record IsWhyIllegal (trees : Bool) (l : Layout) (s : Contents) (x : Illegal) : Type 0 where
  pub lists : GhostLists
  pub kept : IsKept lists
  pub blocks : TreesHaveFirstBlocks lists
  pub layout : layout_of lists.layout ≡ l
  pub contents : contents_in lists ≡ s
  pub told : IsIllegalBy trees lists x
