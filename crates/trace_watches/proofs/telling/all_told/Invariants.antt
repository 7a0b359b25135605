use Rattle.std.proofs.Common.{drop, map}
use Rattle.trace_watches.specs.View.{miss_in, watch_in}
use Rattle.trace_watches.proofs.Leading.{AllLead}
use Rattle.trace_watches.proofs.telling.all_told.Given as goal

abbrev pub invariant-loop-watch : goal.invariant-loop-watch
invariant-loop-watch g l =
    AllLead g.row.A.Denot (map (λ line. line.now) l.lines) (map watch_in l.watches)
    (map watch_in (drop l.watch-index l.watches)) (map miss_in l.missed.items)
