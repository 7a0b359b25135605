use Rattle.trace_text.proofs.BrokenOff.{all_answered, first_answered}
use Rattle.trace_text.proofs.laws.steps_answered.Goals as goal

pub returns-clause-first : goal.returns-clause-first
returns-clause-first g c = first_answered g.O.Oracle.gives

pub returns-clause-all : goal.returns-clause-all
returns-clause-all g c = all_answered g.O.Oracle.gives
