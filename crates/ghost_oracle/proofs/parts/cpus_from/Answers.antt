use Rattle.std.proofs.Common.{◌∙◌, map, ap}
use Rattle.std.proofs.lemmas.List.{take_all}
use Rattle.part_types.specs.View.{cpu_of}
use Rattle.ghost_spec.specs.Views.{cpu_in}
use Rattle.ghost_oracle.proofs.Lists.{mapped_next}
use Rattle.ghost_oracle.proofs.parts.cpus_from.Goals as goal

pub loop-cpu-preserved : goal.loop-cpu-preserved
loop-cpu-preserved c =
    ap (map cpu_in) c.in_ok-push.ensures.items
    ∙ mapped_next cpu_of c.args.cpus.now c.loop-cpu.cpu-index c.cpu-item.result c.loop-cpu-test.true c.cpu-item.is
    cpu_in c.loop-cpu.states.items c.cpu_from.result c.loop-cpu.invariant c.cpu_from.ensures

pub returns : goal.returns
returns c = c.loop-cpu.invariant ∙ ap (map cpu_of) (take_all c.loop-cpu.cpu-index c.args.cpus.now c.loop-cpu-test.false)
