use Rattle.trace_cases.proofs.Meaning.{unmissed_met}
use Rattle.trace_cases.proofs.laws.unmissed_is_met.Goals as goal

pub returns : goal.returns
returns c = unmissed_met
