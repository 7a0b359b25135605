use Rattle.std.proofs.Common.{◌∙◌, sym}
use Rattle.table_tree.specs.declared.table.Slot.TheVariants.{Word}
use Rattle.table_tree.proofs.Slots.{taken_back}
use Rattle.table_tree.proofs.Changes.{detached}
use Rattle.table_tree.proofs.Tight.{cleared, same_cleared}
use Rattle.table_tree.proofs.table.Table.detach.Goals as goal

pub returns-in-Word-clause-slots : goal.returns-in-Word-clause-slots
returns-in-Word-clause-slots g c =
    taken_back c.args.self.now c.take.new.self c.put.new.self c.args.i (Word c.in-Word.word) c.take.result
    (Word 0) c.requires.within c.requires.wide
    c.take.ensures.value c.in-Word.is c.take.ensures.slots c.put.ensures.slots

pub returns-in-Child-clause-tree : goal.returns-in-Child-clause-tree
returns-in-Child-clause-tree g c =
    detached c.args.i c.args.self.now c.take.new.self c.in-Child.child c.requires.within c.requires.wide
    (sym c.take.ensures.value ∙ c.in-Child.is) c.take.ensures.slots c.take.ensures.frame

pub returns-in-Word-clause-rest : goal.returns-in-Word-clause-rest
returns-in-Word-clause-rest g c =
    same_cleared c.args.self.now c.put.new.self
    (taken_back c.args.self.now c.take.new.self c.put.new.self c.args.i (Word c.in-Word.word) c.take.result
    (Word 0) c.requires.within c.requires.wide
    c.take.ensures.value c.in-Word.is c.take.ensures.slots c.put.ensures.slots)

pub returns-in-Child-clause-rest : goal.returns-in-Child-clause-rest
returns-in-Child-clause-rest g c =
    cleared c.args.self.now c.take.new.self c.args.i c.requires.wide c.requires.within c.take.ensures.slots
