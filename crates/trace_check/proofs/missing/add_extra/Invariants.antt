use Rattle.std.proofs.Common.{◌≡◌, ◌++◌, drop, map, string_bytes}
use Rattle.trace_check.specs.Misses.{extra}
use Rattle.trace_check.specs.View.{misses_in}
use Rattle.trace_check.proofs.missing.add_extra.Given as goal

abbrev pub invariant-loop-text : goal.invariant-loop-text
invariant-loop-text l =
    misses_in l.found.items ++ extra l.number (map string_bytes (drop l.text-index l.got))
    ≡ misses_in l.fn.found.items ++ extra l.number (map string_bytes l.got)
