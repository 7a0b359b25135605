use Rattle.coarse_trees.proofs.Stays.{root_is_coarsest, none_is_coarsest, edit_keeps_coarsest}
use Rattle.coarse_trees.proofs.coarsest_stays.Goals as goal

pub returns-clause-root : goal.returns-clause-root
returns-clause-root c = root_is_coarsest

pub returns-clause-none : goal.returns-clause-none
returns-clause-none c = none_is_coarsest

pub returns-clause-edit : goal.returns-clause-edit
returns-clause-edit c = edit_keeps_coarsest
