use Rattle.std.proofs.Common.{ap, ◌∙◌, drop}
use Rattle.component.specs.View.{back_from, tree_after}
use Rattle.page_state.specs.Tables.{all_given}
use Rattle.guest_component.specs.Bodies.{phase_of}
use Rattle.guest_component.specs.InHand.{pool_with}
use Rattle.component.specs.View.{need_for}
use Rattle.table_tree.specs.View.{tree_of}
use Rattle.guest_component.proofs.Guests.{same_parts}
use Rattle.guest_component.proofs.InHand.{after_in_hand, left_in_hand}
use Rattle.guest_component.proofs.body.Body.set.Goals as goal

pub returns-clause-made : goal.returns-clause-made
returns-clause-made g c =
    let b = c.args.self.now in
    let p = c.args.plan in
    let e = c.commit.ensures in
    let all = (pool_with p b).frames in
    same_parts (phase_of b.phase) b.generation b.kind (tree_of c.commit.new.self.tree)
    (tree_after b.map.tree p.change all) c.commit.new.pool.frames
    (all_given (back_from b.map.tree p.change) (drop (need_for b.map.tree p.change) all))
    (e.tree ∙ after_in_hand b p p.change c.requires.in_hand)
    (e.pool ∙ ap (all_given (back_from b.map.tree p.change)) (left_in_hand b p p.change c.requires.in_hand))
