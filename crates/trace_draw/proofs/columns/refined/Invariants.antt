use Rattle.std.specs.Prelude.{◌≡◌, take}
use Rattle.trace_draw.specs.Columns.{frames_of}
use Rattle.trace_draw.proofs.columns.refined.Given as goal

abbrev pub invariant-loop-column : goal.invariant-loop-column
invariant-loop-column l = record { frames : frames_of l.cut.items ≡ frames_of (take l.column-index l.columns) }
