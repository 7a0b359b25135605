use Rattle.std.proofs.Common.{◌≡◌, ◌++◌, drop, map}
use Rattle.trace_check.specs.Records.{bytes_of}
use Rattle.trace_values.proofs.values.bytes_of.Given as goal

abbrev pub invariant-loop-line : goal.invariant-loop-line
invariant-loop-line l =
    l.text.items ++ bytes_of (map (λ line. line.now) (drop l.line-index l.lines))
    ≡ bytes_of (map (λ line. line.now) l.lines)
