use Rattle.std.proofs.Common.{rules}
use Rattle.reference_model.specs.model.Rules.{rule}
use Rattle.decisions.proofs.calls.guest_pages.decide_share_guest.Goals as goal

pub returns : goal.returns
unfolding rule
returns g c = search rules
