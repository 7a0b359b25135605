use Rattle.std.proofs.Common.{rules}
use Rattle.guest_component.proofs.reads.least_of.Goals as goal

pub returns-in-Some : goal.returns-in-Some
returns-in-Some c = search rules

pub returns-in-None : goal.returns-in-None
returns-in-None c = search rules
