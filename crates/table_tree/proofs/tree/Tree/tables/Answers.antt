use Rattle.std.proofs.Common.{◌∙◌, ap}
use Rattle.table_tree.specs.View.{tables_of}
use Rattle.table_tree.specs.Tables.{tables_in}
use Rattle.table_tree.proofs.AllFrames.{tree_count}
use Rattle.table_tree.proofs.tree.Tree.tables.Goals as goal

pub returns-clause-value : goal.returns-clause-value
unfolding tables_of
returns-clause-value g c = c.count_in.ensures.value ∙ ap (λ d. tables_in d c.args.self.now.table) c.depth.ensures.value

pub returns-clause-count : goal.returns-clause-count
returns-clause-count g c = returns-clause-value g c ∙ tree_count c.args.self.now
