use Rattle.std.proofs.Common.{refl}
use Rattle.page_state.specs.Tables.{needs}
use Rattle.ghost_spec.proofs.shared.needed.Goals as goal

pub returns-in-None : goal.returns-in-None
unfolding needs
returns-in-None c = rw c.in-None.is refl
