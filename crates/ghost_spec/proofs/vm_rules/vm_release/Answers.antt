use Rattle.std.proofs.Common.{sym, ◌∙◌}
use Rattle.ghost_spec.specs.Used.{used_in}
use Rattle.ghost_spec.proofs.Tickets.{releases, releases-not}
use Rattle.ghost_spec.proofs.vm_rules.vm_release.Goals as goal

pub returns-then-not-is_at_end-clause-decided : goal.returns-then-not-is_at_end-clause-decided
returns-then-not-is_at_end-clause-decided c =
    λ l cpu slot. releases-not l cpu slot (used_in c.args.used.now) (sym c.is_at_end.ensures ∙ c.if-not-is_at_end.true)

pub returns-clause-decided : goal.returns-clause-decided
returns-clause-decided c =
    λ l cpu slot. releases l cpu slot
    (used_in c.args.used.now) c.ticket_vm.result c.ticket_becomes.result c.ticket_vm.ensures.value
    c.ticket_becomes.ensures
    (sym c.is_at_end.ensures ∙ c.if-not-is_at_end.false)
