use Rattle.std.proofs.Common.{◌≡◌, subst, arith}
use Rattle.page_state.proofs.Cases.{by_lt}
use Rattle.ghost_spec.specs.States.{contents_in}
use Rattle.ghost_slots.specs.Faults.{CpuFits}
use Rattle.ghost_slots.proofs.Past.{all-cpus}
use Rattle.ghost_slots.proofs.cpus.first_cpu.Goals as goal

pub returns : goal.returns
returns c = all-cpus c.args.state.now c.requires c.loop-cpu.cpu c.loop-cpu-test.false c.loop-cpu.invariant

pub loop-cpu-preserved : goal.loop-cpu-preserved
loop-cpu-preserved c = λ d less. by_lt d c.loop-cpu.cpu (λ l. c.loop-cpu.invariant d l) (λ l.
    let e : c.loop-cpu.cpu ≡ d = omega (arith, l, less) in
    subst (CpuFits (contents_in c.args.state.now)) e c.in_default.ensures)
