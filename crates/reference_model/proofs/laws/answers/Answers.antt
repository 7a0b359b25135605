use Rattle.reference_model.proofs.Answers.{barred_answers, carried_answers, answer_steps, full_steps, used_steps}
use Rattle.reference_model.proofs.Held.{history_steps, call_grows}
use Rattle.reference_model.proofs.HeldStored.{held_stored}
use Rattle.reference_model.proofs.laws.answers.Goals as goal

pub returns-clause-barred : goal.returns-clause-barred
returns-clause-barred c = barred_answers

pub returns-clause-carried : goal.returns-clause-carried
returns-clause-carried c = carried_answers

pub returns-clause-steps : goal.returns-clause-steps
returns-clause-steps c = answer_steps

pub returns-clause-full : goal.returns-clause-full
returns-clause-full c = full_steps

pub returns-clause-used : goal.returns-clause-used
returns-clause-used c = used_steps

pub returns-clause-history : goal.returns-clause-history
returns-clause-history c = history_steps

pub returns-clause-call : goal.returns-clause-call
returns-clause-call c = call_grows

pub returns-clause-held : goal.returns-clause-held
returns-clause-held c = held_stored
