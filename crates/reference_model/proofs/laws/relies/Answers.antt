use Rattle.reference_model.proofs.Rely.{reached_relies, relying_answers}
use Rattle.reference_model.proofs.laws.relies.Goals as goal

pub returns-clause-relies : goal.returns-clause-relies
returns-clause-relies c = reached_relies

pub returns-clause-answers : goal.returns-clause-answers
returns-clause-answers c = relying_answers
