use Rattle.reference_model.proofs.conditions.Keeps.{legal_keeps}
use Rattle.reference_model.proofs.laws.legal_keeps.Goals as goal

pub returns : goal.returns
returns c = legal_keeps
