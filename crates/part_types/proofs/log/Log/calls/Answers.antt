use Rattle.std.proofs.Common.{rules}
use Rattle.part_types.proofs.log.Log.calls.Goals as goal

pub returns : goal.returns
returns c = search rules
