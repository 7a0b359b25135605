use Rattle.freedoms.proofs.Judged.{judged_by_maps, steps_judged}
use Rattle.freedoms.proofs.Told.{judged_by_told}
use Rattle.freedoms.proofs.laws.judged_by_maps.Goals as goal

pub returns-clause-maps : goal.returns-clause-maps
returns-clause-maps c = judged_by_maps

pub returns-clause-steps : goal.returns-clause-steps
returns-clause-steps c = steps_judged

pub returns-clause-told : goal.returns-clause-told
returns-clause-told c = judged_by_told
