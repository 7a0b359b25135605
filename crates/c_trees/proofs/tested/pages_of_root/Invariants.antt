use Rattle.std.proofs.Common.{◌≡◌, ◌+◌, ◌-◌, ◌≤◌, ◌++◌, length}
use Rattle.c_trees.specs.Roots.{count_of, pages_from, root_pages}
use Rattle.c_trees.proofs.tested.pages_of_root.Given as goal

abbrev pub invariant-loop-k : goal.invariant-loop-k
invariant-loop-k l = record {
  within : l.k ≤ count_of l.root;
  all : l.found.items ++ pages_from l.pages (l.root.frame + l.k) (count_of l.root - l.k) ≡ root_pages l.pages l.root;
  few : length l.found.items ≤ l.k;
}
