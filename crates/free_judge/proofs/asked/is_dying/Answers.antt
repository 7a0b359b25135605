use Rattle.std.proofs.Common.{sym, ◌∙◌}
use Rattle.reference_model.proofs.Equality.{stages_test}
use Rattle.reference_model.specs.declared.changes.Stage.TheVariants.{Dying}
use Rattle.ghost_spec.specs.Views.{cpu_in}
use Rattle.ghost_spec.proofs.Tickets.{stage-some}
use Rattle.free_judge.proofs.asked.is_dying.Goals as goal

pub returns-in-Some : goal.returns-in-Some
returns-in-Some c =
    c.eq.ensures ∙ stages_test c.in-Some.ticket.stage Dying
    ∙ sym (stage-some Dying (cpu_in c.args.own.now) c.in-Some.ticket c.in-Some.is)
