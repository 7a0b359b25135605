use Rattle.std.proofs.Common.{sym}
use Rattle.ghost_spec.specs.Views.{cpu_in}
use Rattle.ghost_spec.proofs.Tickets.{vm-none}
use Rattle.ghost_spec.proofs.step_uses.ticket_vm.Goals as goal

pub returns-in-None-clause-value : goal.returns-in-None-clause-value
returns-in-None-clause-value c = sym (vm-none (cpu_in c.args.own.now) c.in-None.is)
