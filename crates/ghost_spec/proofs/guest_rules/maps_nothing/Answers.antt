use Rattle.std.proofs.Common.{◌≡◌, Some, None, slice_get, sym}
use Rattle.ghost_trees.proofs.Unmapped.{first-run, no-run}
use Rattle.ghost_spec.proofs.guest_rules.maps_nothing.Goals as goal

pub returns-in-Some : goal.returns-in-Some
returns-in-Some c =
    let first : slice_get c.args.tree.now.runs.items 0 ≡ Some c.in-Some.run'.now =
    sym (rw (c.in-Some.is, c.deref.ensures.value) at c.first.ensures.value) in
    first-run c.args.tree.now.runs.items c.in-Some.run'.now c.args.pages c.requires.coarsest first

pub returns-in-None : goal.returns-in-None
returns-in-None c =
    let none : slice_get c.args.tree.now.runs.items 0 ≡ None =
    sym (rw (c.in-None.is, c.deref.ensures.value) at c.first.ensures.value) in
    no-run c.args.tree.now.runs.items c.args.pages none
