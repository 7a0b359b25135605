use Rattle.coarse_trees.proofs.OneWord.{parts_are_one_word, one_word_of_parts}
use Rattle.coarse_trees.proofs.one_word_in_parts.Goals as goal

pub returns-clause-down : goal.returns-clause-down
returns-clause-down c = parts_are_one_word

pub returns-clause-up : goal.returns-clause-up
returns-clause-up c = one_word_of_parts
