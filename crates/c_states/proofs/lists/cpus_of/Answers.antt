use Rattle.std.proofs.Common.{ap, map, ◌∙◌}
use Rattle.ghost_spec.specs.Views.{cpu_in}
use Rattle.c_states.specs.Lists.{cpu_listed, cpu_from_c}
use Rattle.c_states.proofs.OneMore.{numbered_more}
use Rattle.c_states.proofs.lists.cpus_of.Goals as goal

pub loop-number-preserved : goal.loop-number-preserved
loop-number-preserved c =
    ap (map cpu_in) c.in_ok-push.ensures.items
    ∙ numbered_more cpu_in
    (λ n. cpu_from_c (cpu_listed c.args.cpus.now n)) c.loop-number.made.items c.loop-number.number
    c.cpu_of.result c.loop-number.invariant
    (c.cpu_of.ensures ∙ ap cpu_from_c c.listed_cpu.ensures)
