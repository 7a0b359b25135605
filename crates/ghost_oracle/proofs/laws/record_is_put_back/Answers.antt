use Rattle.ghost_oracle.proofs.Recording.{records_used}
use Rattle.ghost_oracle.proofs.laws.record_is_put_back.Goals as goal

pub returns : goal.returns
returns g c = records_used
