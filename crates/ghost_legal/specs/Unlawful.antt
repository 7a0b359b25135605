-- Which lists, from any source and in any order, make a legal state, and why others don't.
use Rattle.std.specs.Prelude.{true}
use Rattle.page_state.specs.Layouts.{Layout}
use Rattle.page_state.specs.LayoutView.{layout_of}
use Rattle.reference_model.specs.help.Conditions.{Legal}
use Rattle.reference_model.specs.model.State.{Contents}
use Rattle.ghost_spec.specs.declared.lists.GhostLists.{GhostLists}
use Rattle.ghost_spec.specs.Filled.{IsFirstFault, MakesState, state_filled}
use Rattle.ghost_legal.specs.declared.finding.Illegal.{Illegal}
use Rattle.ghost_legal.specs.declared.finding.Unlawful.{Unlawful}
use Rattle.ghost_legal.specs.declared.finding.Unlawful.TheVariants.{NoState, Illegal as IllegalState}
use Rattle.ghost_legal.specs.Told.{IsWhyIllegal}

-- lists make a state, and it is legal
pub record MakesLegal (g : GhostLists) : Type 0 where
  pub makes : MakesState g
  pub legal : Legal (layout_of g.layout) (state_filled g).contents

-- why contents aren't legal
abbrev pub IsIllegalState : Layout → Contents → Illegal → Type 0
IsIllegalState l s why = IsWhyIllegal true l s why

-- why lists make no legal state: the first fault of those that make none, or why the state isn't
-- legal
abbrev pub IsUnlawful : GhostLists → Unlawful → Type 0
IsUnlawful g (NoState fault) = IsFirstFault fault g
IsUnlawful g (IllegalState why) =
    MakesState g × IsIllegalState (layout_of g.layout) (state_filled g).contents why
