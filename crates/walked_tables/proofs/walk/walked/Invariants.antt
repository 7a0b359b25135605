use Rattle.walked_tables.proofs.FromRoots.{IsRooted}
use Rattle.walked_tables.proofs.walk.walked.Given as goal

abbrev pub invariant-loop-k : goal.invariant-loop-k
invariant-loop-k l = IsRooted l.profile l.pages l.tree l.depth l.roots l.fn.met.items l.k l.met.items l.runs.items
