use Rattle.part_types.specs.View.{cpu_of}
use Rattle.decisions.proofs.Tickets.{vm_of_none}
use Rattle.decisions.proofs.calls.guest_frames.ticket_vm.Goals as goal

pub returns-in-None : goal.returns-in-None
returns-in-None c = vm_of_none (cpu_of c.args.cpu.now) c.in-None.is
