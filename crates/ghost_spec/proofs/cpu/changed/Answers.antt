use Rattle.std.proofs.Common.{rules}
use Rattle.ghost_spec.proofs.cpu.changed.Goals as goal

pub returns-in-Keep-ticket : goal.returns-in-Keep-ticket
returns-in-Keep-ticket c = search rules

pub returns-in-Becomes-ticket : goal.returns-in-Becomes-ticket
returns-in-Becomes-ticket c = search rules
