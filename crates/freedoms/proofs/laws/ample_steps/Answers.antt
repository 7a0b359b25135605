use Rattle.freedoms.proofs.Judged.{ample_steps, bare_steps}
use Rattle.freedoms.proofs.laws.ample_steps.Goals as goal

pub returns-clause-steps : goal.returns-clause-steps
returns-clause-steps c = ample_steps

pub returns-clause-bare : goal.returns-clause-bare
returns-clause-bare c = bare_steps
