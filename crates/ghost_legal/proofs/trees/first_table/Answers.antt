use Rattle.std.proofs.Common.{subst, List, ℕ}
use Rattle.ghost_trees.specs.declared.tree.Table.{Table}
use Rattle.ghost_coarse.specs.Misfits.{AreInside}
use Rattle.ghost_legal.proofs.Found.{tables-joined}
use Rattle.ghost_legal.proofs.trees.first_table.Goals as goal

pub returns : goal.returns
returns c =
    let g = c.args.state.now in
    let n = c.depth_of-depth.ensures.value in
    tables-joined g c.first_guest_table.result c.requires.parts
    (subst (λ (d : ℕ). AreInside d g.shared.host.tables.items) n
    (subst
    (λ (ts : List Table). AreInside c.depth_of-depth.result ts) c.as_slice.ensures.value c.in_default.ensures))
    (subst (λ (d : ℕ). AreInside d g.shared.hyp.tables.items) n
    (subst
    (λ (ts : List Table). AreInside c.depth_of-depth.result ts) c.as_slice-2.ensures.value
    c.in_default-first_outside.ensures))
    c.first_guest_table.ensures
