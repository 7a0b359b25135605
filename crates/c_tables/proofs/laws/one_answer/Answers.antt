use Rattle.c_tables.proofs.OneAnswer.{fault_once, trees_else}
use Rattle.c_tables.proofs.laws.one_answer.Goals as goal

pub returns : goal.returns
returns c = record { trees_else = trees_else; fault = fault_once }
