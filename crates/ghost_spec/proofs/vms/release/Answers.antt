use Rattle.std.proofs.Common.{rules}
use Rattle.ghost_spec.proofs.vms.release.Goals as goal

pub returns : goal.returns
returns c = search rules
