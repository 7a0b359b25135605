use Rattle.ghost_slots.proofs.Agreeing.{are-real}
use Rattle.ghost_slots.proofs.laws.faults_are_real.Goals as goal

pub returns : goal.returns
returns c = are-real
