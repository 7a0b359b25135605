use Rattle.std.proofs.Common.{◌∙◌, map, ap}
use Rattle.std.proofs.lemmas.List.{take_all}
use Rattle.ghost_oracle.proofs.Lists.{given_next}
use Rattle.ghost_oracle.proofs.parts.cpu_rooms.Goals as goal

pub loop-cpu-preserved : goal.loop-cpu-preserved
loop-cpu-preserved c =
    c.in_ok-push.ensures.items
    ∙ given_next
    (λ k. k.log.room) c.args.cpus.now c.loop-cpu.cpu-index c.cpu-item.result c.loop-cpu-test.true c.cpu-item.is
    c.loop-cpu.rooms.items c.room.result c.loop-cpu.invariant c.room.ensures

pub returns : goal.returns
returns c =
    c.loop-cpu.invariant
    ∙ ap (map (λ k. k.log.room)) (take_all c.loop-cpu.cpu-index c.args.cpus.now c.loop-cpu-test.false)
