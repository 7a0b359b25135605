use Rattle.std.proofs.Common.{ap, sym, ◌∙◌}
use Rattle.page_state.specs.Geometries.{levels_below}
use Rattle.table_tree.specs.View.{tree_of}
use Rattle.component.specs.View.{need_for}
use Rattle.component.proofs.Keeps.{need_keep}
use Rattle.component.proofs.Component.need.Goals as goal

pub returns-in-None-clause-value : goal.returns-in-None-clause-value
returns-in-None-clause-value g c =
    sym
    (ap (need_for c.args.self.now.tree) c.in-None.is
    ∙ need_keep (levels_below c.args.self.now.tree.geometry) (tree_of c.args.self.now.tree))
