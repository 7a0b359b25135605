use Rattle.std.proofs.Common.{true, false, sym, ◌∙◌}
use Rattle.reference_model.proofs.Equality.{stages_test}
use Rattle.part_types.specs.View.{cpu_of}
use Rattle.decisions.proofs.Tickets.{stage_is}
use Rattle.decisions.proofs.calls.vms.ticket_at.Goals as goal

pub returns-then-eq : goal.returns-then-eq
returns-then-eq c = (
  stage_is c.args.stage (cpu_of c.args.cpu.now) c.in-Some.ticket true c.in-Some.is
      (sym (stages_test c.in-Some.ticket.stage c.args.stage) ∙ sym c.eq.ensures ∙ c.if-eq.true),
  c.in-Some.is,
)

pub returns-else-eq : goal.returns-else-eq
returns-else-eq c =
    stage_is c.args.stage (cpu_of c.args.cpu.now) c.in-Some.ticket false c.in-Some.is
    (sym (stages_test c.in-Some.ticket.stage c.args.stage) ∙ sym c.eq.ensures ∙ c.if-eq.false)
