use Rattle.std.proofs.Common.{rules, ◌+◌, ℕ, ◌<◌, List, length, take}
use Rattle.std.specs.Prelude.{Option}
use Rattle.part_table.specs.Passes.{Pass}
use Rattle.cpu_threads.specs.Rooms.{of_pass, total}
use Rattle.cpu_threads.proofs.Ends.{get_of_or}
use Rattle.cpu_threads.proofs.Tallies.{grew_on, total_more}
use Rattle.cpu_threads.proofs.rooms.count_home.Goals as goal

pub loop-cpu-preserved : goal.loop-cpu-preserved
loop-cpu-preserved g c =
    let ps : List (Option Pass) = c.args.passes.now.items in
    let n : ℕ = c.loop-cpu.cpu in
    let o : Option Pass = c.index.result.now in
    let inside : n < length ps = search rules in
    grew_on (λ p. total p (take n ps)) (λ p. of_pass p o)
    (λ p. total p (take (n + 1) ps)) c.args.tally.now c.loop-cpu.tally c.count_place.new.tally c.loop-cpu.invariant
    (c.count_place.ensures c.if-not-count_place.false)
    (λ p. total_more p ps n o (get_of_or ps n o inside c.index.ensures))
