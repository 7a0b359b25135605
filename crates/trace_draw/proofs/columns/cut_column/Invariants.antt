use Rattle.std.specs.Prelude.{◌≡◌, ◌++◌}
use Rattle.trace_draw.specs.Columns.{frames_of, frames_of_column}
use Rattle.trace_draw.proofs.columns.cut_column.Given as goal

abbrev pub invariant-loop-at : goal.invariant-loop-at
invariant-loop-at l =
    record {
      frames : frames_of l.cut.items ++ frames_of_column l.left
          ≡ frames_of l.initial.cut.items ++ frames_of_column l.initial.left;
    }
