use Rattle.ghost_judge.proofs.Judged.{alike, all_alike, not_both}
use Rattle.ghost_judge.proofs.same.same_tables.Goals as goal

pub returns-then-are_alike : goal.returns-then-are_alike
returns-then-are_alike c = (
  λ t. alike c.args.a.now c.args.b.now (c.are_alike.ensures.0 c.if-are_alike.true)
      (c.are_alike-then-are_alike.ensures.0 t),
  λ e. c.are_alike-then-are_alike.ensures.1 (all_alike c.args.a.now c.args.b.now c.args.b.now e),
)

pub returns-else-are_alike : goal.returns-else-are_alike
returns-else-are_alike c = (
  λ t. absurd (not_both c.are_alike.result t c.if-are_alike.false),
  λ e. c.are_alike.ensures.1 (all_alike c.args.a.now c.args.b.now c.args.a.now e),
)
