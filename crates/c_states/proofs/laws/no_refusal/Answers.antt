use Rattle.c_states.proofs.NoRefusal.{foretold_else, judged_else, made_else, state_else}
use Rattle.c_states.proofs.laws.no_refusal.Goals as goal

pub returns : goal.returns
returns c = record { made = made_else; judged = judged_else; predicted = foretold_else; state = state_else }
