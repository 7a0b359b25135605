use Rattle.std.proofs.Common.{◌≤◌, ◌∙◌, arith, ap, Some, get_or}
use Rattle.std.proofs.lemmas.Bool.Decides.{nat_tests}
use Rattle.table_tree.proofs.RawTables.{raw_wide, raw_slot, raw_child_is}
use Rattle.table_tree.proofs.Steps.{path_end, path_over, path_last, path_stop, path_below}
use Rattle.table_tree.proofs.look.+word_in.Goals as goal
use Rattle.table_tree.proofs.look.+word_in.Goals.{then-is_empty-via-then-is_empty, then-is_empty-via-else-is_empty+then-path-ge512}

pub returns-then-is_empty : goal.returns-then-is_empty
returns-then-is_empty g t c = elim c.then-is_empty.branch [
  | then-is_empty-via-then-is_empty w ↦ path_end c.args.table.now c.args.path.now
      (grind (arith, nat_tests, w.if-is_empty.ensures))
  | then-is_empty-via-else-is_empty+then-path-ge512 w ↦ path_over c.args.table.now c.args.path.now
      (grind (arith, nat_tests, w.if-is_empty.ensures)) w.if-path-ge512.true
]

pub read-slot-requires-clause-wide : goal.read-slot-requires-clause-wide
read-slot-requires-clause-wide g t c = raw_wide c.args.depth c.args.table.now c.requires.raw

pub returns-then-path-eq1 : goal.returns-then-path-eq1
returns-then-path-eq1 g t c =
    ap Some c.word_in_slot.ensures
    ∙ path_last c.args.table.now c.args.path.now c.read-slot.result.now c.if-path-eq1.true c.if-path-ge512.false
    c.read-slot.ensures

pub overflow_sub-depth : goal.overflow_sub-depth
overflow_sub-depth g t c =
    (raw_child_is c.args.depth c.in-Child.child c.read-slot.result.now
    (rw c.read-slot.ensures
    (raw_slot c.args.depth c.args.table.now
    (get_or c.args.path.now 0 0) c.requires.raw c.if-path-ge512.false)) c.in-Child.is).0

pub word_in-requires : goal.word_in-requires
word_in-requires g t c κs within =
    let h =
    raw_child_is c.args.depth c.in-Child.child c.read-slot.result.now
    (rw c.read-slot.ensures
    (raw_slot c.args.depth c.args.table.now
    (get_or c.args.path.now 0 0) c.requires.raw c.if-path-ge512.false)) c.in-Child.is in
    let le : 1 ≤ c.args.depth = h.0 in
    (omega (arith, c.decreases), (within, (omega (arith, c.requires.depth_in), rw c.deref.ensures h.1)))

pub returns-in-Word : goal.returns-in-Word
returns-in-Word g t c =
    path_stop c.args.table.now c.args.path.now c.read-slot.result.now c.in-Word.field-0
    (grind (arith, nat_tests, c.if-is_empty.ensures, c.if-path-eq1.false)) c.if-path-ge512.false
    c.read-slot.ensures c.in-Word.is

pub returns-in-Child : goal.returns-in-Child
returns-in-Child g t c =
    c.word_in.ensures
    ∙ rw c.deref.ensures
    (path_below c.args.table.now c.args.path.now c.read-slot.result.now c.in-Child.child
    (grind (arith, nat_tests, c.if-is_empty.ensures, c.if-path-eq1.false)) c.if-path-ge512.false
    c.read-slot.ensures c.in-Child.is)
