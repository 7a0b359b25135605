use Rattle.reference_model.proofs.conditions.RunsLegal.{run_legal}
use Rattle.reference_model.proofs.laws.run_legal.Goals as goal

pub returns : goal.returns
returns c = run_legal
