use Rattle.std.proofs.Common.{rules}
use Rattle.page_state.specs.LayoutView.{layout_of}
use Rattle.ghost_spec.specs.States.{ghost_state}
use Rattle.c_states.specs.Views.{lists_from_c}
use Rattle.c_states.proofs.Generations.{can_call, foretold_it, last_generation}
use Rattle.c_states.proofs.judge.predicted.Goals as goal

pub returns-then-not-has_next_generation-clause-unpredicted : goal.returns-then-not-has_next_generation-clause-unpredicted
returns-then-not-has_next_generation-clause-unpredicted c = (
  search rules,
  c.in-Ok.ensures.ready,
  c.in-Ok.ensures.taken,
  last_generation (ghost_state c.in-Ok.pre)
      (lists_from_c c.args.before.now) c.args.cpu c.args.step c.in-Some.step c.has_next_generation.result
      (search rules) c.in-Ok.ensures.state c.has_next_generation.ensures
      (search rules),
)

pub returns-else-not-has_next_generation-clause-told : goal.returns-else-not-has_next_generation-clause-told
returns-else-not-has_next_generation-clause-told c =
    foretold_it c.args.layout.now c.args.layout.now.regions.now (layout_of c.in-Ok.pre.layout)
    (ghost_state c.in-Ok.pre) (lists_from_c c.args.before.now) c.args.cpu c.args.step c.in-Some.step c.reply_to.result
    (can_call c.args.layout.now c.args.layout.now.regions.now (ghost_state c.in-Ok.pre)
    (lists_from_c c.args.before.now) c.args.cpu c.args.step c.in-Some.step c.has_next_generation.result
    (search rules) (search rules)
    c.in-Ok.ensures.ready c.in-Ok.ensures.taken c.in-Ok.ensures.state c.has_next_generation.ensures
    c.if-not-has_next_generation.false)
    c.in-Ok.ensures.layout c.in-Ok.ensures.state c.reply_to.ensures.told
