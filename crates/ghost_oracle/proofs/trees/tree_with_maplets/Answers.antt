use Rattle.std.proofs.Common.{◌∙◌, ap}
use Rattle.maplets.specs.View.{KeptMaplets}
use Rattle.ghost_oracle.proofs.Under.{of_kept}
use Rattle.ghost_oracle.proofs.Scratch.{if_ok, if_ok2}
use Rattle.ghost_oracle.proofs.trees.tree_with_maplets.Goals as goal

pub returns-clause-tree : goal.returns-clause-tree
returns-clause-tree g c =
    if_ok2 _ _ _ c.with_maplets.result
    (λ t runs tables. of_kept c.args.component.now t c.args.walked.now c.requires
    (runs ∙ ap (λ (m : KeptMaplets). m.runs) c.maplets.ensures) tables) c.with_maplets.ensures.runs
    c.with_maplets.ensures.tables

pub returns-clause-runs : goal.returns-clause-runs
returns-clause-runs g c =
    if_ok _ _ c.with_maplets.result
    (λ t runs. runs ∙ ap (λ (m : KeptMaplets). m.runs) c.maplets.ensures) c.with_maplets.ensures.runs
