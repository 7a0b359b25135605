use Rattle.std.proofs.Common.{◌≡◌, ◌+◌, ◌++◌, drop, map, string_bytes}
use Rattle.trace_check.specs.Misses.{unmet}
use Rattle.trace_check.specs.View.{misses_in}
use Rattle.trace_check.proofs.missing.add_unmet.Given as goal

abbrev pub invariant-loop-place : goal.invariant-loop-place
invariant-loop-place l =
    misses_in l.found.items
    ++ unmet (l.number + l.place + 1) l.why (drop l.place (map string_bytes l.got))
    (map (λ text. text.now) (drop l.place l.texts))
    ≡ misses_in l.fn.found.items ++ unmet (l.number + 1) l.why (map string_bytes l.got) (map (λ text. text.now) l.texts)
