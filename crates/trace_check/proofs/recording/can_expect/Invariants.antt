use Rattle.std.proofs.Common.{◌≡◌, drop}
use Rattle.trace_check.specs.View.{lines_in}
use Rattle.trace_check.specs.Records.{can_expect}
use Rattle.trace_check.proofs.recording.can_expect.Given as goal

abbrev pub invariant-loop-line : goal.invariant-loop-line
invariant-loop-line l = can_expect (lines_in (drop l.line-index l.comments)) ≡ can_expect (lines_in l.comments)
