use Rattle.std.proofs.Common.{◌≡◌, ◌++◌, take}
use Rattle.std.specs.List.{filter_map}
use Rattle.image_findings.specs.Findings.{clash_of}
use Rattle.image_findings.proofs.clashes.add_with.Given as goal

abbrev pub invariant-loop-i : goal.invariant-loop-i
invariant-loop-i l = l.found.items ≡ l.initial.found.items ++ filter_map (clash_of l.claim) (take l.i l.earlier)
