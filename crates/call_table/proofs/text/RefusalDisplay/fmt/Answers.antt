use Rattle.std.proofs.Common.{rules}
use Rattle.call_table.proofs.text.RefusalDisplay.fmt.Goals as goal

pub returns : goal.returns
returns c = search rules
