use Rattle.std.proofs.Common.{sym, ◌∙◌, true, false}
use Rattle.reference_model.proofs.Equality.{stages_test}
use Rattle.part_types.specs.View.{cpu_of}
use Rattle.decisions.proofs.Tickets.{ticket_is}
use Rattle.hypercalls.proofs.used_parts.ticket_slot.Goals as goal

pub returns-then-eq : goal.returns-then-eq
returns-then-eq c =
    sym
    (ticket_is c.args.stage (cpu_of c.args.cpu.now) c.in-Some.ticket true c.in-Some.is
    (sym (stages_test c.in-Some.ticket.stage c.args.stage) ∙ sym c.eq.ensures ∙ c.if-eq.true))

pub returns-else-eq : goal.returns-else-eq
returns-else-eq c =
    sym
    (ticket_is c.args.stage (cpu_of c.args.cpu.now) c.in-Some.ticket false c.in-Some.is
    (sym (stages_test c.in-Some.ticket.stage c.args.stage) ∙ sym c.eq.ensures ∙ c.if-eq.false))
