use Rattle.world.proofs.World.recompute.Goals as goal

pub of_kept-requires : goal.of_kept-requires
of_kept-requires g c = c.in_ok-walked.ensures.kept c.args.self.now.history

pub returns-clause-state : goal.returns-clause-state
returns-clause-state g c = rw c.of_kept.ensures c.in_ok-walked.ensures.state

pub returns-clause-layout : goal.returns-clause-layout
returns-clause-layout g c = rw c.of_kept.ensures c.in_ok-walked.ensures.layout

pub returns-clause-frames : goal.returns-clause-frames
returns-clause-frames g c = rw c.of_kept.ensures c.in_ok-walked.ensures.frames
