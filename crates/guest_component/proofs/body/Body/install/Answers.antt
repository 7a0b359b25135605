use Rattle.std.proofs.Common.{sym, ap, subst, ◌∙◌}
use Rattle.page_state.specs.Geometries.{levels_below}
use Rattle.page_state.specs.Trees.{root_tree}
use Rattle.reference_model.specs.model.Changes.{frames_in, rest}
use Rattle.reference_model.specs.model.State.{live}
use Rattle.table_tree.specs.View.{tree_of}
use Rattle.guest_component.specs.Own.{HoldsOwn}
use Rattle.guest_component.proofs.Gains.{parted}
use Rattle.guest_component.proofs.Guests.{same_parts}
use Rattle.guest_component.proofs.body.Body.install.Goals as goal

pub invariant_of-result : goal.invariant_of-result
invariant_of-result g c =
    let r = c.args.hand in
    let t = c.in_ok-tree.tree in
    let p = c.in_ok-root.pool in
    let own : HoldsOwn t p =
    parted t p c.in_ok-root.root.0 r.first.0 r.count c.in_ok-root.ensures.frames c.in_ok-tree.ensures.uses
    c.in_ok-tree.ensures.tables c.requires.few c.in_ok-root.ensures.room in
    record { own = subst (λ u. HoldsOwn u p) (sym c.new-2.ensures) own }

pub returns-clause-made : goal.returns-clause-made
returns-clause-made g c x =
    let r = c.args.hand in
    let d = levels_below c.args.geometry in
    let t = c.in_ok-tree.tree in
    let p = c.in_ok-root.pool in
    let tree = ap tree_of c.new-2.ensures ∙ c.in_ok-tree.ensures.tree ∙ ap (root_tree d) c.in_ok-root.ensures.first in
    same_parts live c.args.generation c.args.kind (tree_of c.new-2.result.tree) (root_tree d r.first.0) p.frames
    (rest (frames_in r)) tree (sym (ap rest c.in_ok-root.ensures.frames))
