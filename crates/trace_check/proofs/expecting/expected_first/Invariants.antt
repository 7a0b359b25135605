use Rattle.std.proofs.Common.{◌≡◌, ◌≤◌, ◌++◌, length, drop, map}
use Rattle.trace_check.specs.Expectations.{expected_first}
use Rattle.trace_check.proofs.expecting.expected_first.Given as goal

abbrev pub invariant-loop-line : goal.invariant-loop-line
invariant-loop-line l = record {
  texts : map (λ text. text.now) l.texts.items ++ expected_first (map (λ line. line.now) (drop l.line-index l.lines))
      ≡ expected_first (map (λ line. line.now) l.lines);
  few : length l.texts.items ≤ l.line-index;
}
