use Rattle.std.proofs.Common.{ap, ◌∙◌}
use Rattle.c_states.specs.Views.{lists_from_c}
use Rattle.c_states.proofs.FilledStates.{filled_state, taken_lists, told_fault}
use Rattle.c_states.proofs.state.with_rows.Goals as goal

pub returns-in-Ok-answer-clause-state : goal.returns-in-Ok-answer-clause-state
returns-in-Ok-answer-clause-state c =
    c.in-Ok-answer.ensures.state
    ∙ filled_state c.args.layout.config.cpus
    (lists_from_c c.args.state.now) c.in-Ok.lists c.requires.read.known c.in-Ok.ensures.filled

pub returns-in-Ok-answer-clause-taken : goal.returns-in-Ok-answer-clause-taken
returns-in-Ok-answer-clause-taken c =
    taken_lists c.args.layout.config.cpus
    (lists_from_c c.args.state.now) c.in-Ok.lists c.requires.read c.in-Ok.ensures.filled c.in-Ok-answer.ensures.made

pub returns-in-Err-clause-fault : goal.returns-in-Err-clause-fault
returns-in-Err-clause-fault c =
    told_fault c.args.layout.config.cpus
    (lists_from_c c.args.state.now) c.in-Ok.lists c.requires.read c.in-Ok.ensures.filled c.in-Ok.ensures.guest_rooms
    c.in-Ok.ensures.cpu_rooms
    (ap (λ l. l.config.cpus) c.in-Ok.ensures.layout) c.in-Err.fault c.with_culprit.result c.in-Err.ensures.fault
    c.with_culprit.ensures.memory c.with_culprit.ensures.fault
