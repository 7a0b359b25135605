-- What a session remembers of its world between two steps.
use Rattle.std.specs.Prelude.{◌≡◌, ◌≤◌, ◌*◌, IfSome}
use Rattle.page_state.specs.LayoutView.{layout_of}
use Rattle.ghost_spec.specs.declared.state.Ghost.{Ghost}
use Rattle.ghost_spec.specs.States.{ghost_state}
use Rattle.hypercalls.specs.Stands.{parts_layout, state_of}
use Rattle.trace_text.specs.declared.session.Session.{Session}
use Rattle.world.specs.declared.World.{World}

-- lists that say the state of a world
pub record IsStateAt {A : Type 0} (w : World A) (g : Ghost) : Type 0 where
  pub state : ghost_state g ≡ state_of w.parts
  pub layout : layout_of g.layout ≡ parts_layout w.parts

-- the remembered state is the world's, and no step had more than two disagreements
pub record IsReady {A : Type 0} (s : Session A) : Type 0 where
  pub remembered : IfSome s.world (λ w. IfSome s.state (IsStateAt w))
  pub few : s.disagreements ≤ 2 * s.steps
