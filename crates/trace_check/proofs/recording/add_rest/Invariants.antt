use Rattle.std.proofs.Common.{◌≡◌, drop, map}
use Rattle.trace_check.specs.View.{lines_in}
use Rattle.trace_check.specs.Records.{without_own}
use Rattle.trace_check.proofs.recording.add_rest.Given as goal

abbrev pub invariant-loop-place : goal.invariant-loop-place
invariant-loop-place l = record {
  recorded : lines_in l.recorded.items ≡ lines_in l.fn.recorded.items;
  left : without_own (map (λ line. line.now) (drop l.place l.lines)) ≡ without_own (map (λ line. line.now) l.lines);
}
