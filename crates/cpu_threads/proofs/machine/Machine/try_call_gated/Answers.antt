use Rattle.cpu_threads.proofs.machine.Machine.try_call_gated.Goals as goal

pub returns-clause-answers : goal.returns-clause-answers
returns-clause-answers g c = c.try_step-reply.ensures.answers

pub returns-clause-gate_taken : goal.returns-clause-gate_taken
returns-clause-gate_taken g c = c.try_step-reply.ensures.heard
