use Rattle.std.proofs.Common.{◌≡◌, ◌++◌, map, take}
use Rattle.image_dump.specs.declared.line.DumpLine.TheVariants.{Finding as FindingOf}
use Rattle.image_dump.proofs.collect.add_findings.Given as goal

abbrev pub invariant-loop-i : goal.invariant-loop-i
invariant-loop-i l = l.lines.items ≡ l.initial.lines.items ++ map (λ finding. FindingOf finding) (take l.i l.findings)
