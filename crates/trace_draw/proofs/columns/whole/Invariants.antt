use Rattle.std.specs.Prelude.{◌≡◌, take}
use Rattle.trace_draw.specs.Columns.{frames_in, frames_of}
use Rattle.trace_draw.proofs.columns.whole.Given as goal

abbrev pub invariant-loop-band : goal.invariant-loop-band
invariant-loop-band l = record { frames : frames_of l.columns.items ≡ frames_in (take l.band-index l.bands) }
