use Rattle.std.proofs.Common.{refl}
use Rattle.ghost_spec.proofs.start.unused_rooms.Goals as goal

pub returns-clause-vms : goal.returns-clause-vms
returns-clause-vms c = refl

pub returns-clause-shared : goal.returns-clause-shared
returns-clause-shared c = refl
