use Rattle.std.proofs.Common.{rules, ◌<◌, length}
use Rattle.world.proofs.Merging.{next_inside}
use Rattle.world.proofs.merge.find_next.Goals as goal

pub returns-clause-none : goal.returns-clause-none
returns-clause-none c d next =
    let h = c.args.histories.now in
    let inside : d.cpu < length h.cpus.items = next_inside h c.args.places.now d next in
    let below : d.cpu < c.loop-cpu.cpu = search rules in
    c.loop-cpu.invariant d below next
