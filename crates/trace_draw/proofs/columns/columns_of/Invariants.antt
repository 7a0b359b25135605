use Rattle.std.specs.Prelude.{◌≡◌}
use Rattle.trace_draw.specs.Columns.{frames_of}
use Rattle.trace_draw.proofs.columns.columns_of.Given as goal

abbrev pub invariant-loop-scene : goal.invariant-loop-scene
invariant-loop-scene l = record { frames : frames_of l.columns.items ≡ frames_of l.initial.columns.items }
