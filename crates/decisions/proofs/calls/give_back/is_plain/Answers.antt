use Rattle.std.proofs.Common.{rules}
use Rattle.decisions.proofs.calls.give_back.is_plain.Goals as goal

pub returns-in-Plain : goal.returns-in-Plain
returns-in-Plain c = search rules

pub returns-in_default : goal.returns-in_default
returns-in_default c = search rules
