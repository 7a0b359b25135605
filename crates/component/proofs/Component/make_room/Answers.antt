use Rattle.std.proofs.Common.{rules}
use Rattle.component.proofs.Component.make_room.Goals as goal

pub returns-in-Some-clause-ok : goal.returns-in-Some-clause-ok
returns-in-Some-clause-ok g c = search rules
