use Rattle.ghost_coarse.proofs.Along.{is-coarsest-by}
use Rattle.ghost_coarse.proofs.misfit.first_misfit.Goals as goal

pub returns-in-None : goal.returns-in-None
returns-in-None c =
    is-coarsest-by c.args.depth c.args.tree.now _ _ c.in_ok-block.field-0 c.requires.inside c.as_slice.ensures.value
    c.as_slice-2.ensures.value c.in_default.ensures c.in-None.is c.in_ok-block.ensures
