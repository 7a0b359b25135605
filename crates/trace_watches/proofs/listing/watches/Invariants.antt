use Rattle.std.proofs.Common.{◌≡◌, ◌+◌, drop, map}
use Rattle.trace_watches.specs.View.{watch_in}
use Rattle.trace_watches.specs.Watches.{watches_from, watches_of}
use Rattle.trace_watches.proofs.listing.watches.Given as goal

abbrev pub invariant-loop-place : goal.invariant-loop-place
invariant-loop-place l =
    watches_from l.poked (map watch_in l.seen.items) l.booted (l.place + 1)
    (map (λ line. line.now) (drop l.place l.lines))
    ≡ watches_of (map (λ line. line.now) l.lines)
