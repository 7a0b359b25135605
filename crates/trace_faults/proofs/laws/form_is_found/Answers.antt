use Rattle.trace_faults.proofs.Found.{form_found}
use Rattle.trace_faults.proofs.laws.form_is_found.Goals as goal

pub returns : goal.returns
returns c = form_found
