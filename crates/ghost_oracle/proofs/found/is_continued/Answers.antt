use Rattle.ghost_trees.proofs.Coarse.{target_continues}
use Rattle.ghost_oracle.proofs.found.is_continued.Goals as goal

pub returns-then-run-next : goal.returns-then-run-next
returns-then-run-next c =
    rw (c.eq.ensures, c.advance.ensures) (target_continues c.args.run c.args.next c.if-run-next.true)
