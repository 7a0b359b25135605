use Rattle.std.proofs.Common.{map}
use Rattle.trace_watches.specs.View.{miss_in, watch_in}
use Rattle.trace_watches.proofs.Leading.{all_lead_out, all_lead_turn}
use Rattle.trace_watches.proofs.telling.all_told.Goals as goal

pub loop-watch-preserved : goal.loop-watch-preserved
loop-watch-preserved g c =
    all_lead_turn g.row.A.Denot (map (λ line. line.now) c.args.lines.now) watch_in (map watch_in c.args.watches.now)
    c.args.watches.now c.loop-watch.watch-index _ (map miss_in c.loop-watch.missed.items)
    (map miss_in c.add_told.new.missed.items) c.loop-watch-test.true c.loop-watch.invariant c.in_ok-add_told.ensures

pub returns : goal.returns
returns g c =
    all_lead_out g.row.A.Denot (map (λ line. line.now) c.args.lines.now) watch_in (map watch_in c.args.watches.now)
    c.args.watches.now c.loop-watch.watch-index (map miss_in c.loop-watch.missed.items) c.loop-watch-test.false
    c.loop-watch.invariant
