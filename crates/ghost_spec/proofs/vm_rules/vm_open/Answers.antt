use Rattle.std.proofs.Common.{sym, ◌∙◌}
use Rattle.ghost_spec.specs.Used.{used_in}
use Rattle.ghost_spec.proofs.Tickets.{opens, opens-not}
use Rattle.ghost_spec.proofs.vm_rules.vm_open.Goals as goal

pub returns-then-not-has_stage-clause-decided : goal.returns-then-not-has_stage-clause-decided
returns-then-not-has_stage-clause-decided c =
    λ l cpu slot. opens-not l cpu slot (used_in c.args.used.now) (sym c.has_stage.ensures ∙ c.if-not-has_stage.true)

pub returns-clause-decided : goal.returns-clause-decided
returns-clause-decided c =
    λ l cpu slot. opens l cpu slot
    (used_in c.args.used.now) c.ticket_vm-vm.result c.ticket_becomes.result c.ticket_vm-vm.ensures.value
    c.ticket_becomes.ensures
    (sym c.has_stage.ensures ∙ c.if-not-has_stage.false)
