use Rattle.reference_model.proofs.History.{history_begins, history_grows}
use Rattle.reference_model.proofs.laws.history_grows.Goals as goal

pub returns-clause-begins : goal.returns-clause-begins
returns-clause-begins c = history_begins

pub returns-clause-grows : goal.returns-clause-grows
returns-clause-grows c = history_grows
