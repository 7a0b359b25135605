use Rattle.pkvm_oracle.proofs.OneAnswer.{checked_else, checked_once, unchecked_once}
use Rattle.pkvm_oracle.proofs.laws.one_answer.Goals as goal

pub returns : goal.returns
returns c = record { checked_else = checked_else; checked = checked_once; unchecked = unchecked_once }
