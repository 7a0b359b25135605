use Rattle.reference_model.proofs.conditions.ConditionFacts.{condition_once, conditions_move}
use Rattle.reference_model.proofs.laws.conditions.Goals as goal

pub returns-clause-once : goal.returns-clause-once
returns-clause-once c = condition_once

pub returns-clause-moved : goal.returns-clause-moved
returns-clause-moved c = conditions_move
