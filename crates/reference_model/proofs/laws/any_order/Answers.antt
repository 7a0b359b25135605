use Rattle.reference_model.proofs.Ends.{parts_history, parts_run}
use Rattle.reference_model.proofs.laws.any_order.Goals as goal

pub returns-clause-run : goal.returns-clause-run
returns-clause-run c = parts_run

pub returns-clause-history : goal.returns-clause-history
returns-clause-history c = parts_history
