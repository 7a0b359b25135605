use Rattle.std.proofs.Common.{rules}
use Rattle.reference_model.specs.model.Rules.{rule}
use Rattle.decisions.proofs.calls.vms.decide_vcpu_put.Goals as goal

pub returns-clause-decided : goal.returns-clause-decided
unfolding rule
returns-clause-decided c = search rules
