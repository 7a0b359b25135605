use Rattle.reference_model.proofs.conditions.Bounding.{bounded_keeps, run_bounded}
use Rattle.reference_model.proofs.laws.bounds.Goals as goal

pub returns-clause-keeps : goal.returns-clause-keeps
returns-clause-keeps c = bounded_keeps

pub returns-clause-run : goal.returns-clause-run
returns-clause-run c = run_bounded
