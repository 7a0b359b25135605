use Rattle.walked_tables.specs.Roots.{AreRootPages}
use Rattle.walked_tables.proofs.roots.root_pages.Given as goal

abbrev pub invariant-loop-k : goal.invariant-loop-k
invariant-loop-k l = AreRootPages l.pages l.frame l.k l.roots.items
