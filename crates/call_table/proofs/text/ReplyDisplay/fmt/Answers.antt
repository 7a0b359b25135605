use Rattle.std.proofs.Common.{rules}
use Rattle.call_table.proofs.text.ReplyDisplay.fmt.Goals as goal

pub returns-in-Done : goal.returns-in-Done
returns-in-Done c = search rules

pub returns-in-Refused : goal.returns-in-Refused
returns-in-Refused c = search rules
