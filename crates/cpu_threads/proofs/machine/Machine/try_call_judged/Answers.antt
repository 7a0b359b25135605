use Rattle.cpu_threads.proofs.Judging.{judged_of}
use Rattle.cpu_threads.proofs.machine.Machine.try_call_judged.Goals as goal

pub returns-clause-answers : goal.returns-clause-answers
returns-clause-answers g c = c.try_step_by.ensures.answers

pub returns-clause-silent : goal.returns-clause-silent
returns-clause-silent g c = c.try_step_by.ensures.untold

pub returns-clause-judged : goal.returns-clause-judged
returns-clause-judged g c s =
    judged_of
    {A = g.row.A.Denot} g.J.Judge.takes c.steps_agree.ensures.agree c.args.step c.try_step_by.result
    c.args.pass.now.knows c.try_step_by.new.pass.knows c.args.judge.now c.try_step_by.new.told
    (c.try_step_by.ensures.made s)
