use Rattle.ghost_coarse.proofs.Along.{told-none}
use Rattle.ghost_legal.proofs.Contradicted.{none-or-told-in, some-told, some-told-in, told-of-all}
use Rattle.ghost_legal.proofs.Found.{told-some}
use Rattle.ghost_legal.proofs.state.illegal.Goals as goal

pub returns-in-Some-clause-legal : goal.returns-in-Some-clause-legal
returns-in-Some-clause-legal c =
    some-told c.args.state.now c.requires.kept c.requires.tables c.regions-regions.ensures.accepted c.in-Some.found
    (told-of-all c.args.state.now c.in-Some.found
    (told-some _ _ c.in_ok-found.field-0 c.in-Some.found c.in-Some.is c.in_ok-found.ensures))

pub returns-in-Some-clause-told : goal.returns-in-Some-clause-told
returns-in-Some-clause-told c =
    told-of-all c.args.state.now c.in-Some.found
    (told-some _ _ c.in_ok-found.field-0 c.in-Some.found c.in-Some.is c.in_ok-found.ensures)

pub returns-clause-legal : goal.returns-clause-legal
returns-clause-legal c = let f = told-none _ _ c.in_ok-found.field-0 c.in_default.is c.in_ok-found.ensures in
    none-or-told-in c.args.state.now c.requires.kept c.requires.tables c.regions-regions.ensures.accepted f.pages
    f.frames c.first_tree.result c.first_tree.ensures

pub returns-clause-told : goal.returns-clause-told
returns-clause-told c = some-told-in c.args.state.now _ c.first_tree.result c.first_tree.ensures
