use Rattle.std.proofs.Common.{sym, ◌∙◌}
use Rattle.ghost_spec.proofs.vm_rules.is_at_end.Goals as goal

pub returns-then-has_stage : goal.returns-then-has_stage
returns-then-has_stage c = rw (sym c.has_stage.ensures ∙ c.if-has_stage.true) c.if-has_stage.true

pub returns-else-has_stage : goal.returns-else-has_stage
returns-else-has_stage c = rw (sym c.has_stage.ensures ∙ c.if-has_stage.false) c.has_stage-else-has_stage.ensures
