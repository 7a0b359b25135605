use Rattle.c_calls.proofs.Starts.{starts_are_read}
use Rattle.c_calls.proofs.laws.starts_are_read.Goals as goal

pub returns : goal.returns
returns c = starts_are_read
