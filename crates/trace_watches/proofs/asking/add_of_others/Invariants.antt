use Rattle.std.proofs.Common.{◌≡◌, ◌++◌, drop, map}
use Rattle.std.specs.Prelude.{filter, not}
use Rattle.trace_check.specs.Records.{bytes_of}
use Rattle.trace_watches.specs.Watched.{is_of_cpu}
use Rattle.trace_watches.proofs.asking.add_of_others.Given as goal

abbrev pub invariant-loop-line : goal.invariant-loop-line
invariant-loop-line l =
    l.text.items
    ++ bytes_of
    (filter (λ line. not (is_of_cpu l.step line)) (map (λ line. line.now) (drop l.line-index l.lines)))
    ≡ l.fn.text.items
    ++ bytes_of (filter (λ line. not (is_of_cpu l.step line)) (map (λ line. line.now) l.lines))
