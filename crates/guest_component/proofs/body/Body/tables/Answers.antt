use Rattle.std.proofs.Common.{ℕ, ◌+◌, is_some, sym, ap, ◌∙◌}
use Rattle.reference_model.specs.model.Owner.{count_blocks}
use Rattle.table_tree.specs.View.{tables_of, tree_of}
use Rattle.guest_component.proofs.Frames.{tables_counted}
use Rattle.guest_component.proofs.body.Body.tables.Goals as goal

pub returns-clause-value : goal.returns-clause-value
returns-clause-value g c l e =
    let t = c.args.self.now.map.tree in
    c.tables.ensures.value ∙ ap tables_of c.tree.ensures ∙ sym (tables_counted t)
    ∙ sym (ap (λ (d : ℕ). count_blocks (d + 1) (d + 1) (λ b. is_some ((tree_of t).table b))) e)
