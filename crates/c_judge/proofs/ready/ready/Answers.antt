use Rattle.std.proofs.Common.{rules}
use Rattle.ghost_spec.specs.States.{ghost_state}
use Rattle.c_states.specs.Views.{lists_from_c}
use Rattle.c_judge.proofs.Callable.{callable, last-generation}
use Rattle.c_judge.proofs.ready.ready.Goals as goal

pub returns-then-not-has_next_generation-clause-unpredicted : goal.returns-then-not-has_next_generation-clause-unpredicted
returns-then-not-has_next_generation-clause-unpredicted c = (
  search rules,
  c.in-Ok.ensures.ready,
  c.in-Ok.ensures.taken,
  last-generation (ghost_state c.in-Ok.pre)
      (lists_from_c c.args.before.now) c.args.cpu c.args.step c.in-Some.step c.has_next_generation.result
      (search rules) c.in-Ok.ensures.state c.has_next_generation.ensures (search rules),
)

pub returns-else-not-has_next_generation-clause-ready : goal.returns-else-not-has_next_generation-clause-ready
returns-else-not-has_next_generation-clause-ready c =
    callable c.args.layout.now c.args.layout.now.regions.now c.in-Ok.pre
    (lists_from_c c.args.before.now) c.args.cpu c.args.step c.in-Some.step c.has_next_generation.result
    (search rules) (search rules)
    c.in-Ok.ensures.ready c.in-Ok.ensures.taken c.in-Ok.ensures.state c.has_next_generation.ensures
    c.if-not-has_next_generation.false c.in-Ok.ensures.layout c.in-Ok.ensures.cpus
