use Rattle.coarse_trees.proofs.Stays.{needed_are_new, freed_are_needless, need_of_maps}
use Rattle.coarse_trees.proofs.need_by_maps.Goals as goal

pub returns-clause-needed : goal.returns-clause-needed
returns-clause-needed c = needed_are_new

pub returns-clause-freed : goal.returns-clause-freed
returns-clause-freed c = freed_are_needless

pub returns-clause-need : goal.returns-clause-need
returns-clause-need c = need_of_maps
