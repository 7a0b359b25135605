use Rattle.std.proofs.Common.{rules}
use Rattle.call_table.proofs.text.ValueDisplay.fmt.Goals as goal

pub returns-in-Vm : goal.returns-in-Vm
returns-in-Vm c = search rules

pub returns-in-Row : goal.returns-in-Row
returns-in-Row c = search rules

pub returns-in-Frame : goal.returns-in-Frame
returns-in-Frame c = search rules

pub returns-in-Entry : goal.returns-in-Entry
returns-in-Entry c = search rules
