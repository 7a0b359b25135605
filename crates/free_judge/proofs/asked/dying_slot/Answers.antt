use Rattle.std.proofs.Common.{sym, ◌∙◌}
use Rattle.reference_model.specs.declared.changes.Stage.TheVariants.{Dying}
use Rattle.ghost_spec.specs.Views.{cpu_in}
use Rattle.ghost_spec.proofs.Tickets.{slot-some, slot-other}
use Rattle.free_judge.proofs.asked.dying_slot.Goals as goal

pub returns-then-not-is_dying-clause-value : goal.returns-then-not-is_dying-clause-value
returns-then-not-is_dying-clause-value c =
    sym (slot-other Dying (cpu_in c.args.own.now) (sym c.is_dying.ensures ∙ c.if-not-is_dying.true))

pub returns-in-Some-clause-value : goal.returns-in-Some-clause-value
returns-in-Some-clause-value c =
    sym
    (slot-some Dying (cpu_in c.args.own.now) c.in-Some.ticket c.in-Some.is
    (sym c.is_dying.ensures ∙ c.if-not-is_dying.false))
