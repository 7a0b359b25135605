use Rattle.std.proofs.Common.{rules, subst, sym}
use Rattle.reference_model.specs.model.State.{Reference}
use Rattle.ghost_spec.specs.Kept.{HasNextGeneration}
use Rattle.ghost_judge.proofs.judge.judge.Goals as goal

pub judge_last-requires-clause-generation : goal.judge_last-requires-clause-generation
judge_last-requires-clause-generation c =
    subst (λ (s : Reference). HasNextGeneration (s.contents.cpu c.args.cpu).ticket c.args.step)
    (sym c.in_ok-again.ensures.state) c.requires.generation

pub returns-clause-none : goal.returns-clause-none
returns-clause-none c = search rules

pub returns-clause-first : goal.returns-clause-first
returns-clause-first c = search rules
