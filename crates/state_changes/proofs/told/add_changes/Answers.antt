use Rattle.std.proofs.Common.{subst}
use Rattle.ghost_spec.specs.declared.lists.GhostLists.{GhostLists}
use Rattle.ghost_spec.specs.States.{contents_in}
use Rattle.state_changes.specs.Changed.{ReportsAll}
use Rattle.state_changes.specs.Together.{Adds}
use Rattle.state_changes.proofs.Together.{adds_then}
use Rattle.state_changes.proofs.told.add_changes.Goals as goal

pub returns : goal.returns
returns c =
    let old = c.args.text.now.items in
    let new = c.add_rest.new.text.items in
    subst
    (λ (x : GhostLists). Adds
    (ReportsAll (contents_in x) (contents_in c.args.after.now) c.args.cpu) old new) c.lists-old.ensures.value
    (subst
    (λ (y : GhostLists). Adds
    (ReportsAll (contents_in c.lists-old.result.now) (contents_in y) c.args.cpu) old
    new) c.lists-new.ensures.value
    (adds_then _ _ _ _ _ c.in_ok-add_maps.ensures c.in_ok-add_rest.ensures))
