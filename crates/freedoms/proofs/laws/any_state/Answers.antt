use Rattle.freedoms.proofs.Twins.{steps_of_any, judged_from_any}
use Rattle.freedoms.proofs.Reclaims.{reclaims_of_any}
use Rattle.freedoms.proofs.ByRows.{pools_by_rows, reclaims_by_rows}
use Rattle.freedoms.proofs.laws.any_state.Goals as goal

pub returns-clause-steps : goal.returns-clause-steps
returns-clause-steps c = steps_of_any

pub returns-clause-judged : goal.returns-clause-judged
returns-clause-judged c = judged_from_any

pub returns-clause-reclaims : goal.returns-clause-reclaims
returns-clause-reclaims c = reclaims_of_any

pub returns-clause-pools : goal.returns-clause-pools
returns-clause-pools c = pools_by_rows

pub returns-clause-rows : goal.returns-clause-rows
returns-clause-rows c = reclaims_by_rows
