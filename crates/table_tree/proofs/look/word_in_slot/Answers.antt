use Rattle.std.proofs.Common.{◌^◌, ◌*◌, ◌%◌, ◌+◌, ◌∙◌, ap}
use Rattle.table_tree.specs.Meaning.{frame_of}
use Rattle.table_tree.proofs.Steps.{slot_word_here, slot_word_child}
use Rattle.table_tree.proofs.look.word_in_slot.Goals as goal

pub returns-in-Word : goal.returns-in-Word
returns-in-Word g c = slot_word_here c.in-Word.word c.args.slot.now c.in-Word.is

pub returns-in-Child : goal.returns-in-Child
returns-in-Child g c =
    ap (λ f. f % 2 ^ 36 * 4096 + 3) (c.frame.ensures ∙ ap (λ t. frame_of t) c.deref.ensures)
    ∙ slot_word_child c.in-Child.child c.args.slot.now c.in-Child.is
