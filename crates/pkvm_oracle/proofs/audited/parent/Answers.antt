use Rattle.std.proofs.Common.{◌∙◌, sym, ap, ◌/◌}
use Rattle.pkvm_oracle.proofs.CheckedStates.{parent_more}
use Rattle.pkvm_oracle.proofs.audited.parent.Goals as goal

pub loop-up-preserved : goal.loop-up-preserved
loop-up-preserved c = ap (λ n. n / 512) c.loop-up.invariant ∙ sym (parent_more c.loop-up._up c.args.index)
