use Rattle.ghost_legal.proofs.Contradicted.{early-legal, early-told}
use Rattle.ghost_legal.proofs.state.illegal_but_for_trees.Goals as goal

pub returns-clause-legal : goal.returns-clause-legal
returns-clause-legal c =
    early-legal c.args.state.now c.requires.kept c.requires.tables c.regions-regions.ensures.accepted
    c.first_fault.result c.first_fault.ensures

pub returns-clause-told : goal.returns-clause-told
returns-clause-told c = early-told c.args.state.now c.first_fault.result c.first_fault.ensures
