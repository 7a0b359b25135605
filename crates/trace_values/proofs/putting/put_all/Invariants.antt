use Rattle.std.proofs.Common.{◌≡◌, ◌++◌, drop, map}
use Rattle.trace_check.specs.View.{lines_in}
use Rattle.trace_values.specs.Names.{put}
use Rattle.trace_values.proofs.putting.put_all.Given as goal

abbrev pub invariant-loop-line : goal.invariant-loop-line
invariant-loop-line l =
    lines_in l.all.items ++ map (put l.name l.value) (map (λ line. line.now) (drop l.line-index l.lines))
    ≡ map (put l.name l.value) (map (λ line. line.now) l.lines)
