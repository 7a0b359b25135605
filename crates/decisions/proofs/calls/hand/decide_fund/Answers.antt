use Rattle.std.proofs.Common.{rules}
use Rattle.reference_model.specs.model.Rules.{rule}
use Rattle.decisions.proofs.calls.hand.decide_fund.Goals as goal

pub returns-then-not-may_donate : goal.returns-then-not-may_donate
unfolding rule
returns-then-not-may_donate g c = search rules

pub returns : goal.returns
unfolding rule
returns g c = search rules
