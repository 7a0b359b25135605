use Rattle.reference_model.proofs.Steps.{refusal_keeps, log_full_keeps}
use Rattle.reference_model.proofs.laws.refusal_keeps.Goals as goal

pub returns-clause-state : goal.returns-clause-state
returns-clause-state c = refusal_keeps

pub returns-clause-log_full : goal.returns-clause-log_full
returns-clause-log_full c = log_full_keeps
