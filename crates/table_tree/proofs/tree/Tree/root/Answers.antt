use Rattle.table_tree.specs.View.{root_of}
use Rattle.std.proofs.Common.{◌∙◌, ap, sym, Some}
use Rattle.table_tree.proofs.AllFrames.{root_stands}
use Rattle.table_tree.proofs.tree.Tree.root.Goals as goal

pub returns-clause-value : goal.returns-clause-value
unfolding root_of
returns-clause-value g c = c.frame.ensures

pub returns-clause-standing : goal.returns-clause-standing
returns-clause-standing g c = root_stands c.args.self.now ∙ ap Some (sym (returns-clause-value g c))
