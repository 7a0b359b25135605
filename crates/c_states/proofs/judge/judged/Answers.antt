use Rattle.std.proofs.Common.{rules}
use Rattle.page_state.specs.LayoutView.{layout_of}
use Rattle.ghost_spec.specs.States.{ghost_state}
use Rattle.c_states.specs.Judged.{CanCall}
use Rattle.c_states.specs.Views.{lists_from_c}
use Rattle.c_states.proofs.Generations.{after_it, can_call, judged_it, last_generation}
use Rattle.c_states.proofs.judge.judged.Goals as goal
use Rattle.c_states.proofs.judge.judged.Goals.{After-judged_from}

pub returns-then-not-has_next_generation-clause-unjudged : goal.returns-then-not-has_next_generation-clause-unjudged
returns-then-not-has_next_generation-clause-unjudged c = (
  search rules,
  (
    search rules,
    c.in-Ok.ensures.ready,
    c.in-Ok.ensures.taken,
    last_generation (ghost_state c.in-Ok.pre)
        (lists_from_c c.args.before.now) c.args.call.now.cpu c.args.call.now.step c.in-Some.step
        c.has_next_generation.result
        (search rules) c.in-Ok.ensures.state c.has_next_generation.ensures
        (search rules),
  ),
)

can : (c : After-judged_from)
    → CanCall c.args.layout.now c.args.layout.now.regions.now
    (lists_from_c c.args.before.now) c.args.call.now.cpu c.args.call.now.step c.in-Some.step
can c =
    can_call c.args.layout.now c.args.layout.now.regions.now (ghost_state c.in-Ok.pre)
    (lists_from_c c.args.before.now) c.args.call.now.cpu c.args.call.now.step c.in-Some.step
    c.has_next_generation.result
    (search rules) (search rules)
    c.in-Ok.ensures.ready c.in-Ok.ensures.taken c.in-Ok.ensures.state c.has_next_generation.ensures
    c.if-not-has_next_generation.false

pub returns-else-not-has_next_generation-clause-judged : goal.returns-else-not-has_next_generation-clause-judged
returns-else-not-has_next_generation-clause-judged c =
    judged_it c.args.layout.now c.args.layout.now.regions.now (layout_of c.in-Ok.pre.layout) (ghost_state c.in-Ok.pre)
    (lists_from_c c.args.before.now) c.args.call.now
    (lists_from_c c.args.after.now) c.in-Some.step c.in-Some-reply_of.reply c.judged_from.result
    (can c)
    (search rules) c.in-Ok.ensures.layout c.in-Ok.ensures.state c.judged_from.ensures.taken
    c.judged_from.ensures.none c.judged_from.ensures.first

pub returns-else-not-has_next_generation-clause-unjudged : goal.returns-else-not-has_next_generation-clause-unjudged
returns-else-not-has_next_generation-clause-unjudged c =
    after_it c.args.layout.now c.args.layout.now.regions.now (lists_from_c c.args.before.now) c.args.call.now
    (lists_from_c c.args.after.now) c.in-Some.step c.judged_from.result (can c)
    (search rules) c.judged_from.ensures.unjudged
