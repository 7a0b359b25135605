use Rattle.std.proofs.Common.{◌≡◌, ◌+◌, drop, map}
use Rattle.trace_check.specs.Misses.{unreached}
use Rattle.trace_check.specs.View.{misses_in}
use Rattle.trace_check.proofs.missing.add_unreached.Given as goal

abbrev pub invariant-loop-place : goal.invariant-loop-place
invariant-loop-place l = record {
  found : misses_in l.found.items ≡ misses_in l.fn.found.items;
  left : unreached (l.number + l.place + 1) (map (λ line. line.now) (drop l.place l.lines))
      ≡ unreached (l.number + 1) (map (λ line. line.now) l.lines);
}
