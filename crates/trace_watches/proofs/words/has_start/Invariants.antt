use Rattle.std.proofs.Common.{◌≡◌, drop, map}
use Rattle.std.specs.List.{list_any}
use Rattle.trace_cases.specs.Ways.{is_start}
use Rattle.trace_watches.proofs.words.has_start.Given as goal

abbrev pub invariant-loop-line : goal.invariant-loop-line
invariant-loop-line l =
    list_any is_start (map (λ line. line.now) (drop l.line-index l.lines))
    ≡ list_any is_start (map (λ line. line.now) l.lines)
