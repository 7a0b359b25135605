use Rattle.std.proofs.Common.{◌≡◌, ◌++◌, take}
use Rattle.std.specs.List.{filter_map}
use Rattle.image_findings.specs.Unborrowed.{unshared_of}
use Rattle.image_findings.proofs.unborrowed.add_unshared.Given as goal

abbrev pub invariant-loop-i : goal.invariant-loop-i
invariant-loop-i l = l.found.items ≡ l.initial.found.items ++ filter_map (unshared_of l.claims) (take l.i l.claims)
