use Rattle.std.proofs.Common.{rules}
use Rattle.reference_model.specs.model.Rules.{rule}
use Rattle.decisions.proofs.calls.vms.decide_vcpu_load.Goals as goal

pub returns-then-vcpu-slot-clause-decided : goal.returns-then-vcpu-slot-clause-decided
unfolding rule
returns-then-vcpu-slot-clause-decided c = search rules

pub returns-clause-decided : goal.returns-clause-decided
unfolding rule
returns-clause-decided c = search rules
