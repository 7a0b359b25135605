use Rattle.std.proofs.Common.{◌≡◌, drop, map}
use Rattle.trace_cases.specs.Ways.{has_poke}
use Rattle.trace_watches.proofs.words.has_poke.Given as goal

abbrev pub invariant-loop-line : goal.invariant-loop-line
invariant-loop-line l =
    has_poke (map (λ line. line.now) (drop l.line-index l.lines)) ≡ has_poke (map (λ line. line.now) l.lines)
