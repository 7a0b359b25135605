use Rattle.reference_model.proofs.Ends.{parts_end}
use Rattle.reference_model.proofs.Steps.{end_once}
use Rattle.reference_model.proofs.laws.end_once.Goals as goal

pub returns-clause-calls : goal.returns-clause-calls
returns-clause-calls c = end_once

pub returns-clause-parts : goal.returns-clause-parts
returns-clause-parts c = parts_end
