use Rattle.std.proofs.Common.{◌≡◌, ◌++◌, take}
use Rattle.std.specs.List.{filter_map}
use Rattle.image_findings.specs.Unborrowed.{unborrowed_of}
use Rattle.image_findings.proofs.unborrowed.add_unborrowed.Given as goal

abbrev pub invariant-loop-i : goal.invariant-loop-i
invariant-loop-i l = l.found.items ≡ l.initial.found.items ++ filter_map (unborrowed_of l.claims) (take l.i l.claims)
