use Rattle.reference_model.proofs.Steps.{step_changes, step_reads, step_agrees}
use Rattle.reference_model.proofs.laws.frame_rule.Goals as goal

pub returns-clause-changes : goal.returns-clause-changes
returns-clause-changes c = step_changes

pub returns-clause-reads : goal.returns-clause-reads
returns-clause-reads c = step_reads

pub returns-clause-agrees : goal.returns-clause-agrees
returns-clause-agrees c = step_agrees
