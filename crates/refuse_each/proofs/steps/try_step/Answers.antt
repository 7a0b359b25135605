use Rattle.std.proofs.Common.{sym, subst}
use Rattle.reference_model.specs.model.State.{Reference}
use Rattle.ghost_spec.specs.Kept.{HasNextGeneration}
use Rattle.ghost_oracle.proofs.LowParts.{has_next}
use Rattle.refuse_each.proofs.steps.try_step.Goals as goal

pub check-verdict-requires-clause-generation : goal.check-verdict-requires-clause-generation
check-verdict-requires-clause-generation c =
    subst (λ (s : Reference). HasNextGeneration (s.contents.cpu c.args.cpu).ticket c.args.step)
    (sym c.in_ok-before.ensures.state)
    (has_next c.args.world.now.parts c.args.world.now.history c.args.cpu c.args.step)
