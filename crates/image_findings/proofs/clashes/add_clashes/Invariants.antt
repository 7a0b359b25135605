use Rattle.std.proofs.Common.{◌≡◌, ◌++◌}
use Rattle.image_findings.specs.Findings.{clashes_of}
use Rattle.image_findings.proofs.clashes.add_clashes.Given as goal

abbrev pub invariant-loop-i : goal.invariant-loop-i
invariant-loop-i l = l.found.items ≡ l.initial.found.items ++ clashes_of l.claims l.i
