use Rattle.c_judge.proofs.OneFinding.{found_else}
use Rattle.c_judge.proofs.laws.no_refusal.Goals as goal

pub returns : goal.returns
returns c = found_else
