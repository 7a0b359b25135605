use Rattle.freedoms.proofs.More.{no_more_is_own, more_lets_through, judged_in_view, refusals_stay}
use Rattle.freedoms.proofs.ViewRows.{view_steps}
use Rattle.freedoms.proofs.Aborts.{abort_in_view}
use Rattle.freedoms.proofs.OtherAborts.{abort_of_any_kind}
use Rattle.freedoms.proofs.laws.more_freedoms.Goals as goal

pub returns-clause-none : goal.returns-clause-none
returns-clause-none c = no_more_is_own

pub returns-clause-more : goal.returns-clause-more
returns-clause-more c = more_lets_through

pub returns-clause-view : goal.returns-clause-view
returns-clause-view c = view_steps

pub returns-clause-judged : goal.returns-clause-judged
returns-clause-judged c = judged_in_view

pub returns-clause-abort : goal.returns-clause-abort
returns-clause-abort c = abort_in_view

pub returns-clause-kind : goal.returns-clause-kind
returns-clause-kind c = abort_of_any_kind

pub returns-clause-refusals : goal.returns-clause-refusals
returns-clause-refusals c = refusals_stay
