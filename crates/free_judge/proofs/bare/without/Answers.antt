use Rattle.std.proofs.Common.{◌∙◌}
use Rattle.ghost_spec.specs.States.{contents_in}
use Rattle.free_judge.proofs.Fills.{filled-none}
use Rattle.free_judge.proofs.bare.without.Goals as goal

pub returns-clause-contents : goal.returns-clause-contents
returns-clause-contents c = c.in_ok-made.ensures.contents ∙ filled-none (contents_in c.args.state.now)
