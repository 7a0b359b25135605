use Rattle.reference_model.proofs.conditions.RunsLegal.{accepted_usable, accepted_depth, accepted_made}
use Rattle.reference_model.proofs.laws.accepted_usable.Goals as goal

pub returns-clause-usable : goal.returns-clause-usable
returns-clause-usable c = accepted_usable

pub returns-clause-depth : goal.returns-clause-depth
returns-clause-depth c = accepted_depth

pub returns-clause-made : goal.returns-clause-made
returns-clause-made c = accepted_made
