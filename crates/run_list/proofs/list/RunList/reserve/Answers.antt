use Rattle.std.proofs.Common.{rules}
use Rattle.run_list.proofs.list.RunList.reserve.Goals as goal

pub returns-clause-ok : goal.returns-clause-ok
returns-clause-ok g c = search rules
