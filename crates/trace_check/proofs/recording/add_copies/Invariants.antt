use Rattle.std.proofs.Common.{◌≡◌, ◌++◌, take, map}
use Rattle.trace_check.specs.View.{lines_in}
use Rattle.trace_check.proofs.recording.add_copies.Given as goal

abbrev pub invariant-loop-line : goal.invariant-loop-line
invariant-loop-line l =
    lines_in l.recorded.items ≡ lines_in l.fn.recorded.items ++ map (λ line. line.now) (take l.line-index l.lines)
