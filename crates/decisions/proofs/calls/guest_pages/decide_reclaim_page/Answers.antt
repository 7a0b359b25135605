use Rattle.std.proofs.Common.{rules}
use Rattle.reference_model.specs.model.Rules.{rule}
use Rattle.decisions.proofs.calls.guest_pages.decide_reclaim_page.Goals as goal

pub returns-then-not-is_mapped : goal.returns-then-not-is_mapped
unfolding rule
returns-then-not-is_mapped g c = search rules

pub returns : goal.returns
unfolding rule
returns g c = search rules
