-- What walking finds, given beside the kept state.
use Rattle.std.specs.Prelude.{◌≡◌, unwrap_or}
use Rattle.page_state.specs.LayoutView.{layout_of}
use Rattle.hypercalls.specs.declared.parts.Parts.{Parts}
use Rattle.hypercalls.specs.Stands.{parts_layout, state_of}
use Rattle.ghost_spec.specs.declared.lists.GhostLists.{GhostLists}
use Rattle.ghost_spec.specs.States.{ghost_state}
use Rattle.ghost_oracle.specs.declared.compared.Compared.{Compared}
use Rattle.ghost_oracle.specs.Found.{walked_state, HasRowsOf, HasSameMaplets, HasSameRows}

-- what walking finds: the other state if there is one, otherwise the kept one
abbrev pub walked_in : Compared → GhostLists
walked_in c = unwrap_or c.other c.kept

-- it says what the parts keep, and what walking them finds
pub record IsCompared {A : Type 0} (p : Parts A) (c : Compared) : Type 0 where
  pub state : ghost_state c.kept ≡ state_of p
  pub layout : layout_of c.kept.layout ≡ parts_layout p
  pub maplets : HasSameMaplets p c.kept
  pub rows : HasSameRows p c.kept
  pub frames : HasRowsOf (parts_layout p) c.kept
  pub walked : ghost_state (walked_in c) ≡ walked_state (parts_layout p) (state_of p)
  pub walked_layout : layout_of (walked_in c).layout ≡ parts_layout p
  pub walked_frames : HasRowsOf (parts_layout p) (walked_in c)
