use Rattle.c_judge.proofs.OneReason.{unfound_once}
use Rattle.c_judge.proofs.laws.one_reason.Goals as goal

pub returns : goal.returns
returns c = unfound_once
