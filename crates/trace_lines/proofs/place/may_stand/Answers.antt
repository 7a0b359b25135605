use Rattle.std.proofs.Common.{rules}
use Rattle.trace_lines.proofs.place.may_stand.Goals as goal

pub returns-in-Step : goal.returns-in-Step
returns-in-Step c = search rules

pub returns-in-Poke : goal.returns-in-Poke
returns-in-Poke c = search rules

pub returns-in-Start : goal.returns-in-Start
returns-in-Start c = search rules

pub returns-in-Query : goal.returns-in-Query
returns-in-Query c = search rules

pub returns-then-allows : goal.returns-then-allows
returns-then-allows c = search rules
