use Rattle.std.proofs.Common.{sym, ◌∙◌}
use Rattle.ghost_spec.specs.Views.{cpu_in}
use Rattle.ghost_spec.proofs.Tickets.{slot-some, slot-other}
use Rattle.ghost_spec.proofs.step_uses.ticket_slot.Goals as goal

pub returns-then-not-has_stage-clause-value : goal.returns-then-not-has_stage-clause-value
returns-then-not-has_stage-clause-value c =
    sym (slot-other c.args.stage (cpu_in c.args.own.now) (sym c.has_stage.ensures ∙ c.if-not-has_stage.true))

pub returns-in-Some-clause-value : goal.returns-in-Some-clause-value
returns-in-Some-clause-value c =
    sym
    (slot-some c.args.stage (cpu_in c.args.own.now) c.in-Some.ticket c.in-Some.is
    (sym c.has_stage.ensures ∙ c.if-not-has_stage.false))
