use Rattle.c_states.proofs.FilledStates.{first_fault, in_both}
use Rattle.c_states.proofs.state.tested.Goals as goal

pub returns-clause-layout : goal.returns-clause-layout
returns-clause-layout c = (in_both _ _ c.of.result c.of.ensures.kept).0

pub returns-clause-tables : goal.returns-clause-tables
returns-clause-tables c = (in_both _ _ c.of.result c.of.ensures.kept).1

pub returns-clause-fault : goal.returns-clause-fault
returns-clause-fault c =
    first_fault c.args.lists.now c.of.result c.of.ensures.wrong_count c.of.ensures.too_large c.of.ensures.overlap
    c.of.ensures.table_twice c.of.ensures.frame_twice
