use Rattle.std.proofs.Common.{◌≡◌, ◌<◌, drop, length, map, IfSome}
use Rattle.trace_values.specs.Expansions.{last_from, last_line}
use Rattle.trace_values.proofs.values.last_line.Given as goal

abbrev pub invariant-loop-place : goal.invariant-loop-place
invariant-loop-place l = record {
  last : last_from l.last l.place (map (λ line. line.now) (drop l.place l.lines))
      ≡ last_line (map (λ line. line.now) l.lines);
  below : IfSome l.last (λ last. last < length l.lines);
}
