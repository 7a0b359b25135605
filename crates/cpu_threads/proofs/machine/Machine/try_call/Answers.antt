use Rattle.cpu_threads.proofs.machine.Machine.try_call.Goals as goal

pub returns-clause-answers : goal.returns-clause-answers
returns-clause-answers g c = c.try_call_gated.ensures.answers
