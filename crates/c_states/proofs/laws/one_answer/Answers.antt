use Rattle.c_states.proofs.OneAnswer.{foretold_once, judged_once, state_once}
use Rattle.c_states.proofs.laws.one_answer.Goals as goal

pub returns : goal.returns
returns c = record { judged = judged_once; predicted = foretold_once; state = state_once }
