use Rattle.std.proofs.Common.{rules}
use Rattle.run_list.proofs.list.RunList.room.Goals as goal

pub returns : goal.returns
returns g c = search rules
