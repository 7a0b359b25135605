use Rattle.std.proofs.Common.{◌≡◌}
use Rattle.pkvm_oracle.specs.Audited.{parent}
use Rattle.pkvm_oracle.proofs.audited.parent.Given as goal

abbrev pub invariant-loop-up : goal.invariant-loop-up
invariant-loop-up l = l.found ≡ parent l._up l.index
