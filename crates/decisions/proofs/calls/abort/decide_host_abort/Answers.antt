use Rattle.std.proofs.Common.{rules}
use Rattle.reference_model.specs.model.Rules.{rule}
use Rattle.reference_model.specs.model.SharedRules.{abort_edit}
use Rattle.decisions.proofs.calls.abort.decide_host_abort.Goals as goal

pub returns-in-Annotated : goal.returns-in-Annotated
unfolding rule abort_edit
returns-in-Annotated g c = search rules

pub returns-in-Unmapped : goal.returns-in-Unmapped
unfolding rule abort_edit
returns-in-Unmapped g c = search rules
