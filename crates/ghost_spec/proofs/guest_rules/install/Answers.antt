use Rattle.std.proofs.Common.{not, ap, ◌∙◌}
use Rattle.std.specs.Prelude.{is_none}
use Rattle.ghost_spec.specs.Used.{used_in}
use Rattle.ghost_spec.proofs.Tickets.{installs, installs-not, installs-nowhere}
use Rattle.ghost_spec.proofs.guest_rules.install.Goals as goal

pub returns-then-is_none-clause-decided : goal.returns-then-is_none-clause-decided
returns-then-is_none-clause-decided c =
    λ l cpu. installs-nowhere l cpu c.args.slot (used_in c.args.used.now)
    (ap not (c.is_none.ensures ∙ ap not c.if-is_none.true))

pub returns-in_default-clause-decided : goal.returns-in_default-clause-decided
returns-in_default-clause-decided c =
    λ l cpu. installs-not l cpu c.args.slot (used_in c.args.used.now)
    (ap not (c.is_none.ensures ∙ ap not c.if-is_none.false)) (ap is_none c.in_default.is)

pub returns-clause-decided : goal.returns-clause-decided
returns-clause-decided c =
    λ l cpu. installs l cpu c.args.slot
    (used_in c.args.used.now) c.ticket_kind.result c.ticket_vm.result c.in-Some.hand c.moved_on.result
    c.ticket_kind.ensures c.ticket_vm.ensures.value c.in-Some.is c.moved_on.ensures
    (ap not (c.is_none.ensures ∙ ap not c.if-is_none.false))
