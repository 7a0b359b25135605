use Rattle.reference_model.proofs.conditions.Canonical.{run_canonical, run_fails_by_maps}
use Rattle.reference_model.proofs.laws.run_canonical.Goals as goal

pub returns-clause-trees : goal.returns-clause-trees
returns-clause-trees c = run_canonical

pub returns-clause-by_maps : goal.returns-clause-by_maps
returns-clause-by_maps c = run_fails_by_maps
