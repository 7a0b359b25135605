use Rattle.std.proofs.Common.{rules}
use Rattle.c_states.specs.Views.{lists_from_c}
use Rattle.pkvm_oracle.proofs.TestedStates.{tested_said, untested_said}
use Rattle.pkvm_oracle.proofs.legal.tested.Goals as goal

pub returns-in-Ok-clause-tested : goal.returns-in-Ok-clause-tested
returns-in-Ok-clause-tested c =
    tested_said c.args.layout.now c.args.layout.now.regions.now
    (lists_from_c c.args.state.now) c.args.flags c.in-Some.trees c.in-Ok.state c.tested_with-found.result
    (search rules)
    c.in-Ok.ensures.ready c.in-Ok.ensures.taken c.in-Ok.ensures.layout c.in-Ok.ensures.state
    c.tested_with-found.ensures.tested

pub returns-in-Ok-clause-untested : goal.returns-in-Ok-clause-untested
returns-in-Ok-clause-untested c =
    untested_said c.args.layout.now c.args.layout.now.regions.now
    (lists_from_c c.args.state.now) c.args.flags c.tested_with-found.result c.tested_with-found.ensures.untested
