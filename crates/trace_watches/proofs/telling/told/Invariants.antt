use Rattle.std.proofs.Common.{drop, map}
use Rattle.trace_watches.specs.View.{watch_in}
use Rattle.trace_watches.proofs.Leading.{Leads}
use Rattle.trace_watches.proofs.telling.told.Given as goal

abbrev pub invariant-loop-place : goal.invariant-loop-place
invariant-loop-place g l =
    Leads g.row.A.Denot (map (λ line. line.now) l.lines) (watch_in l.watch) l.place
    (map (λ line. line.now) (drop l.place l.lines))
