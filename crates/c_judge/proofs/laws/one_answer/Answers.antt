use Rattle.c_judge.proofs.OneFinding.{found_once}
use Rattle.c_judge.proofs.laws.one_answer.Goals as goal

pub returns : goal.returns
returns c = found_once
