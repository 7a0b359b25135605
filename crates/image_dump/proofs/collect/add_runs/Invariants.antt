use Rattle.std.proofs.Common.{◌≡◌, ◌++◌, map, take}
use Rattle.image_dump.specs.declared.line.DumpLine.TheVariants.{Run as RunOf}
use Rattle.image_dump.proofs.collect.add_runs.Given as goal

abbrev pub invariant-loop-i : goal.invariant-loop-i
invariant-loop-i l = l.lines.items ≡ l.initial.lines.items ++ map (λ run. RunOf run) (take l.i l.runs)
