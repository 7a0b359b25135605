use Rattle.reference_model.proofs.conditions.RowFacts.{legal_rows_true, run_rows_true, row_once}
use Rattle.reference_model.proofs.laws.row_laws.Goals as goal

pub returns-clause-legal : goal.returns-clause-legal
returns-clause-legal c = legal_rows_true

pub returns-clause-run : goal.returns-clause-run
returns-clause-run c = run_rows_true

pub returns-clause-once : goal.returns-clause-once
returns-clause-once c = row_once
