use Rattle.trace_outcomes.proofs.Histories.{races_are_reported}
use Rattle.trace_outcomes.proofs.laws.races_are_reported.Goals as goal

pub returns : goal.returns
returns c = races_are_reported
