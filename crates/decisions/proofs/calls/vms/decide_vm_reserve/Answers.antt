use Rattle.std.proofs.Common.{rules}
use Rattle.reference_model.specs.model.Rules.{rule}
use Rattle.decisions.proofs.calls.vms.decide_vm_reserve.Goals as goal

pub returns-then-is_some-clause-decided : goal.returns-then-is_some-clause-decided
unfolding rule
returns-then-is_some-clause-decided c = search rules

pub returns-clause-decided : goal.returns-clause-decided
unfolding rule
returns-clause-decided c = search rules
