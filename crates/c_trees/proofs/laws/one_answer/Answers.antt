use Rattle.c_trees.proofs.OneAnswer.{fault_once, trees_else}
use Rattle.c_trees.proofs.laws.one_answer.Goals as goal

pub returns : goal.returns
returns c = record { trees_else = trees_else; fault = fault_once }
