use Rattle.cpu_threads.proofs.Asked.{asked_once, shows_model}
use Rattle.cpu_threads.proofs.laws.judged.Goals as goal

pub returns-clause-once : goal.returns-clause-once
returns-clause-once g c = asked_once g.row.A.Denot

pub returns-clause-shows : goal.returns-clause-shows
returns-clause-shows g c = shows_model g.row.A.Denot g.J.Judge.takes
