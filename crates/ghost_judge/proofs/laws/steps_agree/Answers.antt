use Rattle.ghost_judge.proofs.JudgedSteps.{step_agrees}
use Rattle.ghost_judge.proofs.laws.steps_agree.Goals as goal

pub returns : goal.returns
returns c = record { agree = step_agrees }
