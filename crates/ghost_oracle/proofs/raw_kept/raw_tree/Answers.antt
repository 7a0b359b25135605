use Rattle.std.proofs.Common.{◌∙◌}
use Rattle.ghost_oracle.proofs.RawUnder.{under_raw}
use Rattle.ghost_oracle.proofs.raw_kept.raw_tree.Goals as goal

pub returns-in-Words-clause-words : goal.returns-in-Words-clause-words
returns-in-Words-clause-words g c = λ e. c.in_ok-walked.ensures.tree ∙ under_raw c.args.component.now.tree
