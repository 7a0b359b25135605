use Rattle.std.proofs.Common.{◌≡◌, ◌+◌, ◌++◌, drop, map}
use Rattle.trace_check.specs.Checks.{mistaken_lines}
use Rattle.trace_check.proofs.writing.add_mistaken.Given as goal

abbrev pub invariant-loop-place : goal.invariant-loop-place
invariant-loop-place l =
    l.text.items ++ mistaken_lines l.name (l.place + 1) (map (λ line. line.now) (drop l.place l.lines))
    ≡ l.fn.text.items ++ mistaken_lines l.name 1 (map (λ line. line.now) l.lines)
