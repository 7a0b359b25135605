use Rattle.std.proofs.Common.{◌≡◌, ◌-◌, ◌*◌, subst, arith}
use Rattle.table_tree.specs.Reading.{count_of}
use Rattle.ghost_oracle.specs.inner.Eights.{GoesTo, HasLooked}
use Rattle.ghost_oracle.specs.inner.Pending.{pending_with}
use Rattle.ghost_oracle.proofs.Eights.{next_slot, next_more, next_room, looked_more, words_more, goes_to}
use Rattle.ghost_oracle.proofs.eight.go_on_by.Goals as goal

pub are_next-requires-clause-room : goal.are_next-requires-clause-room
are_next-requires-clause-room g c =
    next_room c.loop-c.next c.args.pending.now.next c.args.step c.args.from c.loop-c.c c.loop-c.invariant.next
    c.loop-c.auto.c c.loop-c-test.true
    (c.requires.room c.if-goes_on.true)

pub overflow_add-next : goal.overflow_add-next
overflow_add-next g c = let x =
    next_room c.loop-c.next c.args.pending.now.next c.args.step c.args.from c.loop-c.c c.loop-c.invariant.next
    c.loop-c.auto.c c.loop-c-test.true
    (c.requires.room c.if-goes_on.true) in
    omega (arith, x)

pub loop-c-preserved : goal.loop-c-preserved
loop-c-preserved g c = record {
  pending = c.loop-c.invariant.pending;
  words =
      words_more c.args.table.now c.loop-c.next c.args.pending.now.next c.args.step c.args.from c.loop-c.c
      c.loop-c.invariant.next c.loop-c.auto.c c.loop-c.invariant.words
      (next_slot c.args.table.now
      (8 * c.loop-c.c) _ _ _ _ _ _ _ _ c.eight_at-slots.ensures.slots c.loop-c.next c.args.step
      (c.are_next.ensures c.if-are_next.true));
  on = λ _. c.if-goes_on.true;
  next =
      next_more c.loop-c.next c.args.pending.now.next c.args.step c.args.from c.loop-c.c
      c.loop-c.invariant.next c.loop-c.auto.c;
  reads =
      subst (λ n. HasLooked (count_of c.args.reads.now) n (count_of c.eight_at-slots.new.reads))
      (omega (arith, c.loop-c.auto.c))
      (looked_more (count_of c.args.reads.now) (8 * c.loop-c.c - 8 * c.args.from) (count_of c.loop-c.looked)
      (count_of c.eight_at-slots.new.reads) c.loop-c.invariant.reads c.eight_at-slots.ensures.reads);
}

pub returns-else-goes_on-clause-words : goal.returns-else-goes_on-clause-words
returns-else-goes_on-clause-words g c =
    goes_to c.args.table.now (8 * c.args.from)
    (8 * c.loop-c.c) c.loop-c.next c.args.step c.args.pending.now c.loop-c.pending c.requires.step
    c.loop-c.invariant.pending c.loop-c.invariant.next c.loop-c.invariant.on c.loop-c.invariant.words

pub returns-clause-words : goal.returns-clause-words
returns-clause-words g c =
    let last : 8 * c.loop-c.c ≡ 512 = omega (arith, c.loop-c.auto.c-end, c.loop-c-test.false) in
    subst
    (λ j. GoesTo c.args.table.now (8 * c.args.from) j c.args.pending.now
    (pending_with c.loop-c.pending c.loop-c.next)) last
    (goes_to c.args.table.now (8 * c.args.from)
    (8 * c.loop-c.c) c.loop-c.next c.args.step c.args.pending.now c.loop-c.pending c.requires.step
    c.loop-c.invariant.pending c.loop-c.invariant.next c.loop-c.invariant.on c.loop-c.invariant.words)
