use Rattle.ghost_spec.specs.States.{contents_in}
use Rattle.ghost_judge.proofs.Judged.{answered}
use Rattle.ghost_judge.proofs.judge.differs.Goals as goal

pub returns-clause-none : goal.returns-clause-none
returns-clause-none c =
    answered (contents_in c.args.post.now) (contents_in c.args.spec.now) c.in_states.result
    (rw (c.lists.ensures.value, c.lists-2.ensures.value) at c.in_states.ensures)
