use Rattle.std.proofs.Common.{rules}
use Rattle.table_tree.proofs.Changes.{seen}
use Rattle.table_tree.proofs.table.Table.slot.Goals as goal

pub returns-clause-tree : goal.returns-clause-tree
returns-clause-tree g c = seen c.args.i c.args.self.now c.read.result.now c.requires.within c.read.ensures

pub returns-clause-reads : goal.returns-clause-reads
returns-clause-reads g c = search rules
