use Rattle.reference_model.proofs.conditions.Keeps.{touched_rows}
use Rattle.reference_model.proofs.laws.touched_rows.Goals as goal

pub returns : goal.returns
returns c = touched_rows
