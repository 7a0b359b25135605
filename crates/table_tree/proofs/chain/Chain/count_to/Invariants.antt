use Rattle.std.proofs.Common.{◌≡◌, ◌-◌, ℕ, ◌+◌, ◌≤◌, List, length}
use Rattle.table_tree.specs.Chain.{IsChain}
use Rattle.table_tree.specs.Links.{links_of}
use Rattle.table_tree.proofs.chain.Chain.count_to.Given as goal

abbrev pub invariant-loop-count : goal.invariant-loop-count
invariant-loop-count g l =
    (fs : List ℕ) × (IsChain fs l.slot × ((l.count + length fs ≡ length (links_of l.self)) × (l.count ≤ l.most)))

abbrev pub decreases-loop-count : goal.decreases-loop-count
decreases-loop-count g l = l.most - l.count
