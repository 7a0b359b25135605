use Rattle.std.proofs.Common.{◌<◌, ◌∙◌, length, arith, subst}
use Rattle.std.proofs.Crossing.{crosses}
use denote.Param.Send.{sendable}
use Rattle.part_table.specs.Passes.{IsPassOf}
use Rattle.part_table.proofs.Lists.{or_of_get}
use Rattle.cpu_threads.proofs.Crossing.{pass_send, machine_sync}
use Rattle.cpu_threads.proofs.Ends.{get_bound, get_of_or}
use Rattle.world_tests.proofs.machines.threads.make_all.Goals as goal

pub for_each_mut-requires-send-T : goal.for_each_mut-requires-send-T
for_each_mut-requires-send-T g c κs within = search (sendable, crosses, pass_send) depth 40 fits 4000

pub for_each_mut-requires-sync-F : goal.for_each_mut-requires-sync-F
for_each_mut-requires-sync-F g c κs within = search (sendable, crosses, machine_sync) depth 40 fits 4000

pub for_each_mut-requires-clause-accepts : goal.for_each_mut-requires-clause-accepts
for_each_mut-requires-clause-accepts g c κs within i p lt e =
    c.requires i p.now (get_of_or c.args.passes.now i p.now lt e)

pub returns : goal.returns
returns g c j p e =
    let b = get_bound c.for_each_mut.new.s j p e in
    let same = c.for_each_mut.auto.s in
    let inside : j < length c.args.passes.now = omega (arith, b, same) in
    let at = (c.for_each_mut.ensures j p inside).1 in
    subst (IsPassOf c.args.machine.now.table) (at.left ∙ or_of_get c.for_each_mut.new.s j p p e) at.call
