use Rattle.std.proofs.Common.{◌≡◌, ◌++◌, take}
use Rattle.std.specs.List.{filter_map}
use Rattle.image_findings.specs.Findings.{mapped_of}
use Rattle.image_findings.proofs.tables.add_mapped_by.Given as goal

abbrev pub invariant-loop-i : goal.invariant-loop-i
invariant-loop-i l = l.found.items ≡ l.initial.found.items ++ filter_map (mapped_of l.table) (take l.i l.claims)
