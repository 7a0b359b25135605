use Rattle.reference_model.proofs.Steps.{step_exists, step_once, reply_once}
use Rattle.reference_model.proofs.laws.step_defined.Goals as goal

pub returns-clause-exists : goal.returns-clause-exists
returns-clause-exists c = step_exists

pub returns-clause-once : goal.returns-clause-once
returns-clause-once c = step_once

pub returns-clause-reply : goal.returns-clause-reply
returns-clause-reply c = reply_once
