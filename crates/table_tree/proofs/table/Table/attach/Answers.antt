use Rattle.table_tree.proofs.Changes.{attached}
use Rattle.table_tree.proofs.table.Table.attach.Goals as goal

pub returns-clause-tree : goal.returns-clause-tree
returns-clause-tree g c =
    attached c.args.i c.args.self.now c.write.new.self c.args.child c.requires.within c.requires.wide c.requires.holds
    c.write.ensures.slots c.write.ensures.frame
