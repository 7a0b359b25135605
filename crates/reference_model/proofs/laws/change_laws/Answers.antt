use Rattle.reference_model.proofs.ChangesUsed.{changes_used}
use Rattle.reference_model.proofs.conditions.ChangesFit.{changes_fit, touched_whole}
use Rattle.reference_model.proofs.conditions.PartsFit.{part_changes_fit}
use Rattle.reference_model.proofs.laws.change_laws.Goals as goal

pub returns-clause-used : goal.returns-clause-used
returns-clause-used c = changes_used

pub returns-clause-fit : goal.returns-clause-fit
returns-clause-fit c = changes_fit

pub returns-clause-touched : goal.returns-clause-touched
returns-clause-touched c = touched_whole

pub returns-clause-parts : goal.returns-clause-parts
returns-clause-parts c = part_changes_fit
