use Rattle.std.proofs.Common.{◌≡◌, ◌++◌, drop}
use Rattle.trace_check.specs.View.{lines_in}
use Rattle.trace_check.specs.Records.{bytes_of}
use Rattle.trace_check.proofs.recording.bytes_of.Given as goal

abbrev pub invariant-loop-line : goal.invariant-loop-line
invariant-loop-line l = l.text.items ++ bytes_of (lines_in (drop l.line-index l.lines)) ≡ bytes_of (lines_in l.lines)
