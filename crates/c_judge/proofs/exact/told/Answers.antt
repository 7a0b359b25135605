use Rattle.ghost_spec.specs.States.{ghost_state}
use Rattle.c_states.specs.Views.{lists_from_c}
use Rattle.c_judge.proofs.Callable.{cpu-is, generation-is, told-reply}
use Rattle.c_judge.proofs.exact.told.Goals as goal

pub predict_last-requires-clause-cpu : goal.predict_last-requires-clause-cpu
predict_last-requires-clause-cpu c =
    cpu-is c.args.layout.now c.args.layout.now.regions.now
    (lists_from_c c.args.before.now) c.args.cpu c.args.step c.in_ok-step.step c.in_ok-step.pre
    c.in_ok-step.ensures.ready

pub predict_last-requires-clause-generation : goal.predict_last-requires-clause-generation
predict_last-requires-clause-generation c =
    generation-is c.args.layout.now c.args.layout.now.regions.now
    (lists_from_c c.args.before.now) c.args.cpu c.args.step c.in_ok-step.step c.in_ok-step.pre
    c.in_ok-step.ensures.ready

pub returns-in-Ok-clause-told : goal.returns-in-Ok-clause-told
returns-in-Ok-clause-told c = record {
  step = c.in_ok-step.step;
  can = c.in_ok-step.ensures.ready.can;
  reply_is =
      told-reply c.args.layout.now c.args.layout.now.regions.now
      (lists_from_c c.args.before.now) c.args.cpu c.args.step c.in_ok-step.step c.in_ok-step.pre
      c.in_ok-step.ensures.ready c.in-Ok.reply
      (ghost_state c.in-Ok.after) c.in-Ok.ensures.predicted;
}
