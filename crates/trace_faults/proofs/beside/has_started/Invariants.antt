use Rattle.std.proofs.Common.{◌≡◌, codes, drop, map}
use Rattle.std.specs.List.{list_any}
use Rattle.std.specs.Str.{bytes_eq}
use Rattle.trace_faults.proofs.beside.has_started.Given as goal

abbrev pub invariant-loop-line : goal.invariant-loop-line
invariant-loop-line l =
    list_any (λ line. bytes_eq line (codes "start")) (map (λ line. line.now) l.lines)
    ≡ list_any (λ line. bytes_eq line (codes "start")) (map (λ line. line.now) (drop l.line-index l.lines))
