use Rattle.std.proofs.Common.{ap, map, ◌∙◌}
use Rattle.c_states.specs.declared.members.PlainCpu.{PlainCpu}
use Rattle.ghost_spec.specs.Views.{cpu_in}
use Rattle.c_states.specs.Lists.{cpu_from_c}
use Rattle.c_states.proofs.OneMore.{numbered_more, seen_more}
use Rattle.std.proofs.Common.{length}
use Rattle.c_states.specs.Told.{is_cpu_well_formed}
use Rattle.c_states.proofs.ToldKnown.{cpu_known, known_more}
use Rattle.c_states.proofs.told.cpus_to_c.Goals as goal

pub loop-i-preserved : goal.loop-i-preserved
loop-i-preserved c = (
  ap (map (λ (x : PlainCpu). x.cpu)) c.in_ok-push.ensures.items
      ∙ numbered_more (λ (x : PlainCpu). x.cpu)
      (λ n. n) c.loop-i.told.items c.loop-i.i c.cpu_to_c.result c.loop-i.invariant.0 c.cpu_to_c.ensures.number,
  ap (map cpu_from_c) c.in_ok-push.ensures.items
      ∙ seen_more cpu_from_c cpu_in c.args.cpus.now c.loop-i.told.items c.loop-i.i _ c.cpu_to_c.result
      c.loop-i-test.true
      c.loop-i.invariant.1 c.cpu_to_c.ensures.said,
  known_more
      (is_cpu_well_formed (length c.args.cpus.now)) c.loop-i.told.items c.push.new.self.items c.cpu_to_c.result
      c.in_ok-push.ensures.items c.loop-i.invariant.2
      (cpu_known
      (length c.args.cpus.now) c.loop-i.i c.cpu_to_c.result c.cpu_to_c.ensures.number c.loop-i-test.true
      c.cpu_to_c.ensures.known),
)
