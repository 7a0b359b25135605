use Rattle.free_judge.proofs.Judged.{found_where, no_false_alarm}
use Rattle.free_judge.proofs.laws.judged.Goals as goal

pub returns-clause-found : goal.returns-clause-found
returns-clause-found c = found_where

pub returns-clause-steps : goal.returns-clause-steps
returns-clause-steps c = no_false_alarm
