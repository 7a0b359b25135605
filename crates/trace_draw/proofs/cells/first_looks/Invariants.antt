use Rattle.std.specs.Prelude.{◌≡◌, length}
use Rattle.trace_draw.proofs.cells.first_looks.Given as goal

abbrev pub invariant-loop-column : goal.invariant-loop-column
invariant-loop-column l = record { count : length l.looks.items ≡ l.column-index }
