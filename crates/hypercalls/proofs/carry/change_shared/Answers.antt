use Rattle.std.proofs.Common.{rules}
use Rattle.hypercalls.proofs.carry.change_shared.Goals as goal

pub returns-clause-shared : goal.returns-clause-shared
returns-clause-shared g c = record { made = search rules; err = tt; suits = search rules; log = search rules }
