use Rattle.std.proofs.Common.{◌≡◌, take, map, string_bytes}
use Rattle.trace_check.specs.View.{lines_in}
use Rattle.trace_check.specs.Expectations.{comment}
use Rattle.trace_check.proofs.recording.comments.Given as goal

abbrev pub invariant-loop-text : goal.invariant-loop-text
invariant-loop-text l = lines_in l.comments.items ≡ map comment (map string_bytes (take l.text-index l.texts))
