use Rattle.ghost_legal.proofs.Contradicted.{no-fault}
use Rattle.ghost_legal.proofs.laws.no_false_alarm.Goals as goal

pub returns : goal.returns
returns c = λ g kept first accepted x f l. no-fault g kept first accepted l x f
