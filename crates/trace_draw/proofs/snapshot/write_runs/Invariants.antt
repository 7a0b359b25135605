use Rattle.std.specs.Prelude.{◌≡◌, ◌++◌, take, string_bytes}
use Rattle.trace_draw.specs.Texts.{text_of_runs}
use Rattle.trace_draw.proofs.snapshot.write_runs.Given as goal

abbrev pub invariant-loop-run : goal.invariant-loop-run
invariant-loop-run l =
    record { written : string_bytes l.text ≡ string_bytes l.initial.text ++ text_of_runs (take l.run-index l.runs) }
