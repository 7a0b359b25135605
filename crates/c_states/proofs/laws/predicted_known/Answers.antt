use Rattle.c_states.proofs.NoRefusal.{predicted_known}
use Rattle.c_states.proofs.laws.predicted_known.Goals as goal

pub returns : goal.returns
returns c = predicted_known
