use Rattle.std.proofs.Common.{rules}
use Rattle.reference_model.specs.model.Rules.{rule}
use Rattle.decisions.proofs.calls.unshare.decide_unshare_hyp.Goals as goal

pub returns-then-not-is_in : goal.returns-then-not-is_in
unfolding rule
returns-then-not-is_in g c = search rules

pub returns : goal.returns
unfolding rule
returns g c = search rules
