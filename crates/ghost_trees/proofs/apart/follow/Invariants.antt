use Rattle.ghost_trees.specs.InOrder.{AreApartTo, HaveEnded}
use Rattle.ghost_trees.proofs.apart.follow.Given as goal

abbrev pub invariant-loop-i : goal.invariant-loop-i
invariant-loop-i g l = record {
  ended : HaveEnded g.T.Paged.pages_of l.items l.i l.until;
  apart : AreApartTo g.T.Paged.pages_of l.items l.i;
}
