use Rattle.world.proofs.HeadlineLaws.{booted_else, fault_once}
use Rattle.world.proofs.laws.one_fault.Goals as goal

pub returns : goal.returns
returns g c = record { once = fault_once; booted = booted_else }
