use Rattle.std.proofs.Common.{◌≡◌, ◌++◌, take}
use Rattle.ghost_legal.specs.Listed.{runs_held}
use Rattle.ghost_legal.proofs.held.add_runs.Given as goal

abbrev pub invariant-loop-i : goal.invariant-loop-i
invariant-loop-i l = l.held.items ≡ l.fn.held.items ++ runs_held l.slot (take l.i l.runs)
