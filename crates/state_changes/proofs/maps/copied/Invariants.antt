use Rattle.std.proofs.Common.{◌≡◌, take}
use Rattle.state_changes.specs.Lists.{list_runs}
use Rattle.state_changes.proofs.maps.copied.Given as goal

abbrev pub invariant-loop-run : goal.invariant-loop-run
invariant-loop-run l = l.list.items ≡ list_runs (take l.run-index l.runs)
