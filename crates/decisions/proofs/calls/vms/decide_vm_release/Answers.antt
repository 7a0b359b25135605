use Rattle.part_types.specs.View.{cpu_of}
use Rattle.vm_table.specs.View.{vms_of}
use Rattle.decisions.proofs.Tickets.{releases, releases_none}
use Rattle.decisions.proofs.calls.vms.decide_vm_release.Goals as goal

pub returns-in_default-clause-decided : goal.returns-in_default-clause-decided
returns-in_default-clause-decided c =
    λ l id. releases_none l id (vms_of c.args.table.now) (cpu_of c.args.cpu.now) c.in_default.ensures

pub returns-clause-decided : goal.returns-clause-decided
returns-clause-decided c =
    λ l id. releases l id (vms_of c.args.table.now)
    (cpu_of c.args.cpu.now) c.in-Some.ticket c.ticket_becomes.result c.ticket_becomes.ensures c.in-Some.ensures.0
    c.in-Some.ensures.1
