use Rattle.ghost_coarse.proofs.Along.{in-tree-by}
use Rattle.ghost_coarse.proofs.lacking.lacking_at.Goals as goal

pub returns : goal.returns
returns c =
    in-tree-by c.args.tree.now _ _ c.in_ok-indexes.indexes.items _ c.args.depth c.args.count _ c.as_slice.ensures.value
    c.as_slice-2.ensures.value c.as_slice-3.ensures.value c.in_ok-indexes.ensures.are c.lacking_of.ensures
