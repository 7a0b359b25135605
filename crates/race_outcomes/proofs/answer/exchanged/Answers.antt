use Rattle.std.proofs.Common.{◌∙◌, ap}
use Rattle.ghost_spec.specs.States.{contents_in}
use Rattle.race_outcomes.proofs.answer.exchanged.Goals as goal

pub returns-clause-contents : goal.returns-clause-contents
returns-clause-contents c = ap contents_in c.of_kept.ensures ∙ ap contents_in c.into_lists-lists.ensures.value
