use Rattle.std.proofs.Common.{◌≡◌, ◌++◌}
use Rattle.image_findings.specs.Findings.{met_in}
use Rattle.image_findings.proofs.tables.add_met_twice.Given as goal

abbrev pub invariant-loop-i : goal.invariant-loop-i
invariant-loop-i l = l.found.items ≡ l.initial.found.items ++ met_in l.tables l.i
