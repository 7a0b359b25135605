use Rattle.state_changes.proofs.Once.{all_once}
use Rattle.state_changes.proofs.laws.one_text.Goals as goal

pub returns : goal.returns
returns c = all_once
