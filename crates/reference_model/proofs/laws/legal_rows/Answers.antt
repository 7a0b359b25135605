use Rattle.reference_model.proofs.conditions.OfLegal.{legal_rows}
use Rattle.reference_model.proofs.laws.legal_rows.Goals as goal

pub returns : goal.returns
returns c = legal_rows
