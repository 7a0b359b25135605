use Rattle.std.proofs.Common.{rules, ◌+◌, ℕ, ◌<◌, List, length, subst, take}
use Rattle.std.specs.Prelude.{Some, filter}
use Rattle.call_table.specs.declared.reply.Call.{Call}
use Rattle.part_table.specs.Passes.{Pass}
use Rattle.cpu_threads.specs.Rooms.{Grew, of_pass, total_given}
use Rattle.cpu_threads.proofs.Ends.{get_of_or}
use Rattle.cpu_threads.proofs.Tallies.{given_more, grew_on}
use Rattle.cpu_threads.proofs.rooms.count_given.Goals as goal

pub loop-j-preserved : goal.loop-j-preserved
loop-j-preserved g c =
    let ps : List Pass = c.args.given.now.items in
    let n : ℕ = c.loop-j.j in
    let q : Pass = c.index.result.now in
    let inside : n < length ps = search rules in
    grew_on (λ p. total_given p (take n ps)) (λ p. of_pass p (Some q))
    (λ p. total_given p (take (n + 1) ps)) c.args.tally.now c.loop-j.tally c.count_list.new.tally c.loop-j.invariant
    (subst (λ (cs : List Call). Grew (λ p. length (filter p cs)) c.loop-j.tally c.count_list.new.tally) c.calls.ensures
    (c.count_list.ensures c.if-not-count_list.false))
    (λ p. given_more p ps n q (get_of_or ps n q inside c.index.ensures))
