use Rattle.std.proofs.Common.{◌≡◌, ◌≤◌, ◌-◌}
use Rattle.arrayvec.specs.ArrayVec.{array_vec_len}
use Rattle.table_tree.specs.OnPage.{path_of}
use Rattle.trace_audit.proofs.path.path_to.Given as goal

abbrev pub invariant-loop-upper : goal.invariant-loop-upper
invariant-loop-upper l =
    record { fits : array_vec_len l.path ≤ l.upper; path : l.path.items ≡ path_of l.page (3 - l.top) (l.upper - l.top) }
