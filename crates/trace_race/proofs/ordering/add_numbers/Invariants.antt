use Rattle.std.proofs.Common.{◌≡◌, ◌++◌, drop}
use Rattle.trace_race.specs.Orders.{numbers_text}
use Rattle.trace_race.proofs.ordering.add_numbers.Given as goal

abbrev pub invariant-loop-line : goal.invariant-loop-line
invariant-loop-line l =
    l.text.items ++ numbers_text (drop l.line-index l.lines) ≡ l.fn.text.items ++ numbers_text l.lines
