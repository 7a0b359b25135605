use Rattle.std.proofs.Common.{rules}
use Rattle.page_state.proofs.layout.LayoutFault.number.Goals as goal

pub returns-in-Empty : goal.returns-in-Empty
returns-in-Empty c = search rules

pub returns-in-TooMany : goal.returns-in-TooMany
returns-in-TooMany c = search rules

pub returns-in-Overlap : goal.returns-in-Overlap
returns-in-Overlap c = search rules

pub returns-in-NoMemory : goal.returns-in-NoMemory
returns-in-NoMemory c = search rules

pub returns-in-PastLimit : goal.returns-in-PastLimit
returns-in-PastLimit c = search rules

pub returns-in-CarveOutside : goal.returns-in-CarveOutside
returns-in-CarveOutside c = search rules
