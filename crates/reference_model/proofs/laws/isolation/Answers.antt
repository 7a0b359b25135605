use Rattle.reference_model.proofs.conditions.Isolates.{isolated, run_isolated, others_kept_out, run_kept_out}
use Rattle.reference_model.proofs.laws.isolation.Goals as goal

pub returns-clause-isolated : goal.returns-clause-isolated
returns-clause-isolated c = isolated

pub returns-clause-run : goal.returns-clause-run
returns-clause-run c = run_isolated

pub returns-clause-kept_out : goal.returns-clause-kept_out
returns-clause-kept_out c = others_kept_out

pub returns-clause-run_kept_out : goal.returns-clause-run_kept_out
returns-clause-run_kept_out c = run_kept_out
