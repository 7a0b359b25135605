use Rattle.ghost_trees.proofs.Later.{later_slice}
use Rattle.ghost_trees.proofs.apart.is_apart_from_later.Goals as goal

pub returns : goal.returns
returns g c =
    let e =
    later_slice g.T.Apart.IsApart c.args.items.now c.args.i c.index-items-i.result c.requires c.index-items-i.is in
    (λ t. e.0 (c.is_apart_from.ensures.0 t), λ h. c.is_apart_from.ensures.1 (e.1 h))
