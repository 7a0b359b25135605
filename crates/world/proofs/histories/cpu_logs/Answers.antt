use Rattle.std.proofs.Common.{◌∙◌, map, ap}
use Rattle.ghost_oracle.proofs.Lists.{mapped_next}
use Rattle.world.proofs.histories.cpu_logs.Goals as goal

pub loop-cpu-preserved : goal.loop-cpu-preserved
loop-cpu-preserved c =
    ap (map (λ v. v.items)) c.in_ok-push.ensures.items
    ∙ mapped_next
    (λ p. p.log.calls) c.args.cpus.now c.loop-cpu.cpu-index c.cpu-item.result c.loop-cpu-test.true c.cpu-item.is
    (λ v. v.items) c.loop-cpu.logs.items c.in_ok-from_slice.field-0 c.loop-cpu.invariant
    (c.in_ok-from_slice.ensures.items ∙ c.calls.ensures)
