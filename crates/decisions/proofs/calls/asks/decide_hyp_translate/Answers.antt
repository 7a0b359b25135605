use Rattle.std.proofs.Common.{rules}
use Rattle.reference_model.specs.model.Rules.{rule}
use Rattle.decisions.proofs.calls.asks.decide_hyp_translate.Goals as goal

pub returns-clause-decided : goal.returns-clause-decided
unfolding rule
returns-clause-decided g c = search rules
