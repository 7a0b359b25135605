use Rattle.c_states.proofs.state.with_culprit.Goals as goal

pub returns-in_default : goal.returns-in_default
returns-in_default c =
    record { memory = λ e. absurd (c.in_default.not-NoMemory e); fault = λ cpus h. (h, c.culprit.ensures cpus h) }
