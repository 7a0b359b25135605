use Rattle.std.proofs.Common.{◌≡◌, ◌++◌}
use Rattle.image_findings.specs.Findings.{mapped_in}
use Rattle.image_findings.proofs.tables.add_mapped.Given as goal

abbrev pub invariant-loop-i : goal.invariant-loop-i
invariant-loop-i l = l.found.items ≡ l.initial.found.items ++ mapped_in l.claims l.tables l.i
