use Rattle.std.proofs.Common.{sym, ◌∙◌}
use Rattle.reference_model.proofs.Equality.{stages_test}
use Rattle.ghost_spec.specs.Views.{cpu_in}
use Rattle.ghost_spec.proofs.Tickets.{stage-some}
use Rattle.ghost_spec.proofs.step_uses.has_stage.Goals as goal

pub returns-in-Some : goal.returns-in-Some
returns-in-Some c =
    c.eq.ensures ∙ stages_test c.in-Some.ticket.stage c.args.stage
    ∙ sym (stage-some c.args.stage (cpu_in c.args.own.now) c.in-Some.ticket c.in-Some.is)
