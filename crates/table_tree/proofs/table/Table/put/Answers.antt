use Rattle.table_tree.proofs.Changes.{written}
use Rattle.table_tree.proofs.table.Table.put.Goals as goal

pub returns-clause-tree : goal.returns-clause-tree
returns-clause-tree g c =
    written c.args.i c.args.word c.args.self.now c.write.new.self c.requires.within c.requires.wide c.requires.holds
    c.write.ensures.slots c.write.ensures.frame
