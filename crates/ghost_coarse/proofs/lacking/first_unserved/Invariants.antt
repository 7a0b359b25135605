use Rattle.std.proofs.Common.{ℕ, ◌<◌, ◌≤◌}
use Rattle.page_state.specs.Runs.{map_of}
use Rattle.ghost_coarse.specs.inner.Served.{IsServed}
use Rattle.ghost_coarse.proofs.lacking.first_unserved.Given as goal

abbrev pub invariant-loop-index : goal.invariant-loop-index
invariant-loop-index l = (i : ℕ) → l.from ≤ i → i < l.index → IsServed (map_of l.runs) l.indexes l.depth i
