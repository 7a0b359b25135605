use Rattle.ghost_oracle.proofs.kept.kept_and_walked.Goals as goal

pub compared-requires-clause-kept : goal.compared-requires-clause-kept
compared-requires-clause-kept g c = c.in_ok-found.ensures.kept c.requires.history
