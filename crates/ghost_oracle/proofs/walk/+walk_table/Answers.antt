use Rattle.std.proofs.Common.{◌≡◌, ◌+◌, ◌-◌, ◌*◌, ◌≤◌, ◌<◌, ◌++◌, sym, ap, subst, ◌∙◌, arith, rules}
use Rattle.page_state.specs.Geometries.{block_pages}
use Rattle.table_tree.specs.Reading.{count_of}
use Rattle.table_tree.specs.Tables.{tables_in}
use Rattle.table_tree.proofs.Sums.{tables_all}
use Rattle.table_tree.proofs.RawTables.{raw_wide, raw_slot, raw_child_is}
use Rattle.ghost_oracle.specs.inner.Pending.{IsPending}
use Rattle.ghost_oracle.specs.inner.Walking.{AreRunsTo}
use Rattle.ghost_oracle.proofs.Eights.{slot_is}
use Rattle.ghost_oracle.proofs.FoundTables.{pushed_table, before_all}
use Rattle.ghost_oracle.proofs.Places.{part_small}
use Rattle.ghost_oracle.proofs.Walking.{child_place, slots_before, read_all}
use Rattle.ghost_oracle.proofs.Walks.{IsWalked, walk_begins, walk_on, walk_word_by, walk_child, walk_ends, block_small, whole_small}
use Rattle.ghost_oracle.proofs.walk.+walk_table.Goals as goal
use Rattle.ghost_oracle.proofs.walk.+walk_table.Goals.{in-Word+in_ok-take_word-in-Word, in-Child+in_ok-put_pending-in-Child+in_ok-walk_table-in-Child}

pub overflow_mul-number-2 : goal.overflow_mul-number-2
overflow_mul-number-2 g t c = let x =
    whole_small c.args.depth c.args.number c.pages_under-pages.result c.pages_under-pages.ensures.value
    c.requires.place in
    omega (arith, x)

pub loop-c-init : goal.loop-c-init
loop-c-init g t c = record {
  within = omega arith;
  at =
      walk_begins c.args.depth c.args.number c.args.table.now c.args.found.now.runs.items c.args.found.now.tables.items
      (count_of c.args.reads.now) c.nothing_pending-pending.result c.push.new.self.items
      (c.nothing_pending-pending.ensures.first ∙ ap (λ s. c.args.number * 512 * s) c.pages_under-pages.ensures.value)
      (subst (λ p. (m : _) (depth left : _) → IsPending m depth p left c.nothing_pending-pending.result)
      (sym c.nothing_pending-pending.ensures.first) c.nothing_pending-pending.ensures.pending)
      c.requires.before
      (pushed_table c.args.depth c.args.number c.frame.result.0 c.args.table.now c.args.found.now.tables.items
      c.push.new.self.items c.in_ok-push.ensures.items c.frame.ensures);
}

pub go_on-requires-clause-wide : goal.go_on-requires-clause-wide
go_on-requires-clause-wide g t c = raw_wide c.args.depth c.args.table.now c.requires.raw

pub loop-k-init : goal.loop-k-init
loop-k-init g t c =
    let from : c.loop-c.from ≤ c.in-Some.c = c.in-Some.ensures.slots.0 in
    let less : c.in-Some.c < 64 = c.in-Some.ensures.slots.1 in
    subst
    (λ i. IsWalked c.args.depth c.args.number c.args.table.now c.args.found.now.runs.items
    c.args.found.now.tables.items
    (count_of c.args.reads.now) i
    (8 * c.in-Some.c + 8) c.go_on.new.pending c.loop-c.found.runs.items c.loop-c.found.tables.items
    (count_of c.go_on.new.reads))
    (omega arith)
    (walk_on c.args.depth c.args.number c.args.table.now c.args.found.now.runs.items c.args.found.now.tables.items
    (count_of c.args.reads.now) (8 * c.loop-c.from)
    (8 * c.loop-c.from) c.loop-c.pending c.loop-c.found.runs.items c.loop-c.found.tables.items
    (count_of c.loop-c.reads) c.loop-c.invariant.at (raw_wide c.args.depth c.args.table.now c.requires.raw)
    (8 * c.in-Some.c) (8 * c.in-Some.c + 8) (count_of c.go_on.new.reads) c.go_on.new.pending (omega (arith, from))
    (omega (arith, less)) c.in-Some.ensures.words (8 * c.in-Some.c + 8 - 8 * c.loop-c.from)
    (omega (arith, from)) c.in-Some.ensures.reads)

pub overflow_mul-part-in-Word : goal.overflow_mul-part-in-Word
overflow_mul-part-in-Word g t c = let x =
    part_small c.args.depth c.args.number (8 * c.in-Some.c + c.loop-k.k) c.pages_under-pages.result
    (omega (arith, c.in-Some.ensures.slots.1, c.loop-k-test.true)) c.pages_under-pages.ensures.value
    c.requires.place in
    omega (arith, x)

pub take_word-requires-clause-can : goal.take_word-requires-clause-can
take_word-requires-clause-can g t c =
    let pages = c.pages_under-pages.ensures.value in
    let pending = c.loop-k.invariant.pending in
    record {
      depth_in = c.requires.depth_in;
      pages = pages;
      place =
          part_small c.args.depth c.args.number (8 * c.in-Some.c + c.loop-k.k) c.pages_under-pages.result
          (omega (arith, c.in-Some.ensures.slots.1, c.loop-k-test.true)) pages c.requires.place;
      order = search rules;
      small = pending.small;
      before = c.loop-k.invariant.runs;
    }

pub overflow_mul-part-in-Child : goal.overflow_mul-part-in-Child
overflow_mul-part-in-Child g t c = let x =
    part_small c.args.depth c.args.number (8 * c.in-Some.c + c.loop-k.k) c.pages_under-pages.result
    (omega (arith, c.in-Some.ensures.slots.1, c.loop-k-test.true)) c.pages_under-pages.ensures.value
    c.requires.place in
    omega (arith, x)

pub put_pending-requires-clause-pages : goal.put_pending-requires-clause-pages
put_pending-requires-clause-pages g t c = let x =
    part_small c.args.depth c.args.number (8 * c.in-Some.c + c.loop-k.k) c.pages_under-pages.result
    (omega (arith, c.in-Some.ensures.slots.1, c.loop-k-test.true)) c.pages_under-pages.ensures.value
    c.requires.place in
    omega (arith, x)

pub overflow_sub-depth : goal.overflow_sub-depth
overflow_sub-depth g t c =
    let l : 8 * c.in-Some.c + c.loop-k.k < 512 = omega (arith, c.in-Some.ensures.slots.1, c.loop-k-test.true) in
    let at =
    slot_is c.args.table.now
    (8 * c.in-Some.c) _ _ _ _ _ _ _ _ c.in-Some.ensures.slots.2 c.loop-k.k c.one_of.result.now
    c.loop-k-test.true c.one_of.ensures in
    (raw_child_is c.args.depth c.in-Child.child _
    (raw_slot c.args.depth c.args.table.now (8 * c.in-Some.c + c.loop-k.k) c.requires.raw l) (at ∙ c.in-Child.is)).0

pub walk_table-requires : goal.walk_table-requires
walk_table-requires g t c κs within =
    let l : 8 * c.in-Some.c + c.loop-k.k < 512 = omega (arith, c.in-Some.ensures.slots.1, c.loop-k-test.true) in
    let at =
    slot_is c.args.table.now
    (8 * c.in-Some.c) _ _ _ _ _ _ _ _ c.in-Some.ensures.slots.2 c.loop-k.k c.one_of.result.now
    c.loop-k-test.true c.one_of.ensures in
    let h =
    raw_child_is c.args.depth c.in-Child.child _
    (raw_slot c.args.depth c.args.table.now (8 * c.in-Some.c + c.loop-k.k) c.requires.raw l)
    (at ∙ c.in-Child.is) in
    let le : 1 ≤ c.args.depth = h.0 in
    let e : c.args.depth ≡ c.args.depth - 1 + 1 = omega arith in
    let place = child_place c.args.depth c.args.number (8 * c.in-Some.c + c.loop-k.k) le l c.requires.place in
    let before =
    subst
    (λ s. AreRunsTo ((c.args.number * 512 + (8 * c.in-Some.c + c.loop-k.k)) * s) c.put_pending.new.runs.items)
    (c.pages_under-pages.ensures.value ∙ ap block_pages e) c.in_ok-put_pending-in-Child.ensures.runs in (
      omega (arith, c.decreases),
      (within, (omega (arith, c.requires.depth_in), (rw c.deref.ensures h.1, (place, before)))),
    )

pub overflow_add-part-in-Child : goal.overflow_add-part-in-Child
overflow_add-part-in-Child g t c = let x = block_small c.args.depth c.args.number c.requires.place in
    omega (arith, x, c.in-Some.ensures.slots.1, c.loop-k-test.true)

pub overflow_mul-part-in-Child-2 : goal.overflow_mul-part-in-Child-2
overflow_mul-part-in-Child-2 g t c = let x =
    part_small c.args.depth c.args.number (8 * c.in-Some.c + c.loop-k.k) c.pages_under-pages.result
    (omega (arith, c.in-Some.ensures.slots.1, c.loop-k-test.true)) c.pages_under-pages.ensures.value
    c.requires.place in
    omega (arith, x)

pub loop-k-preserved : goal.loop-k-preserved
loop-k-preserved g t c =
    let wide = raw_wide c.args.depth c.args.table.now c.requires.raw in
    let l : 8 * c.in-Some.c + c.loop-k.k < 512 = omega (arith, c.in-Some.ensures.slots.1, c.loop-k-test.true) in
    let at =
    slot_is c.args.table.now
    (8 * c.in-Some.c) _ _ _ _ _ _ _ _ c.in-Some.ensures.slots.2 c.loop-k.k c.one_of.result.now
    c.loop-k-test.true c.one_of.ensures in
    let later : 8 * c.in-Some.c + c.loop-k.k + 1 ≡ 8 * c.in-Some.c + (c.loop-k.k + 1) = omega arith in
    subst
    (λ j. IsWalked c.args.depth c.args.number c.args.table.now c.args.found.now.runs.items
    c.args.found.now.tables.items
    (count_of c.args.reads.now) j
    (8 * c.in-Some.c + 8) c.match-one_of.pending c.match-one_of.found.runs.items
    c.match-one_of.found.tables.items
    (count_of c.match-one_of.reads)) later
    (elim c.match-one_of.branch [
      | in-Word+in_ok-take_word-in-Word w ↦ rw (w.found-is, w.reads-is, w.pending-is)
          (walk_word_by c.args.depth c.args.number c.args.table.now c.args.found.now.runs.items
          c.args.found.now.tables.items
          (count_of c.args.reads.now) (8 * c.in-Some.c + c.loop-k.k)
          (8 * c.in-Some.c + 8) c.loop-k.pending c.loop-k.found.runs.items c.loop-k.found.tables.items
          (count_of c.loop-k.reads) c.loop-k.invariant wide
          c.pages_under-pages.result w.in-Word.word w.take_word.new.pending w.take_word.new.runs.items
          c.pages_under-pages.ensures.value l
          (at ∙ w.in-Word.is)
          w.in_ok-take_word-in-Word.ensures.runs w.in_ok-take_word-in-Word.ensures.map
          w.in_ok-take_word-in-Word.ensures.order w.in_ok-take_word-in-Word.ensures.pending)
      | in-Child+in_ok-put_pending-in-Child+in_ok-walk_table-in-Child w ↦
          let k =
          (raw_child_is c.args.depth w.in-Child.child _
          (raw_slot c.args.depth c.args.table.now (8 * c.in-Some.c + c.loop-k.k) c.requires.raw l)
          (at ∙ w.in-Child.is)).0 in
          rw (w.found-is, w.reads-is, w.pending-is)
          (walk_child c.args.depth c.args.number c.args.table.now c.args.found.now.runs.items
          c.args.found.now.tables.items
          (count_of c.args.reads.now) (8 * c.in-Some.c + c.loop-k.k)
          (8 * c.in-Some.c + 8) c.loop-k.pending c.loop-k.found.runs.items c.loop-k.found.tables.items
          (count_of c.loop-k.reads) c.loop-k.invariant wide
          c.pages_under-pages.result w.in-Child.child w.nothing_pending-pending-in-Child.result
          w.put_pending.new.runs.items w.walk_table.new.found.runs.items w.walk_table.new.found.tables.items
          (count_of w.walk_table.new.reads) c.pages_under-pages.ensures.value l (at ∙ w.in-Child.is) k
          w.in_ok-put_pending-in-Child.ensures.map w.in_ok-walk_table-in-Child.ensures.runs
          (rw w.deref.ensures at w.in_ok-walk_table-in-Child.ensures.map)
          (rw w.deref.ensures at w.in_ok-walk_table-in-Child.ensures.tables)
          (rw w.deref.ensures at w.in_ok-walk_table-in-Child.ensures.reads)
          w.nothing_pending-pending-in-Child.ensures.first w.nothing_pending-pending-in-Child.ensures.pending)
    ])

pub loop-c-preserved : goal.loop-c-preserved
loop-c-preserved g t c =
    let less : c.in-Some.c < 64 = c.in-Some.ensures.slots.1 in
    let k : c.loop-k.k ≡ 8 = omega (arith, c.loop-k.auto.k-end, c.loop-k-test.false) in
    record {
      within = omega (arith, less);
      at =
          subst
          (λ j. IsWalked c.args.depth c.args.number c.args.table.now c.args.found.now.runs.items
          c.args.found.now.tables.items
          (count_of c.args.reads.now) j
          (8 * (c.in-Some.c + 1)) c.loop-k.pending c.loop-k.found.runs.items c.loop-k.found.tables.items
          (count_of c.loop-k.reads))
          (ap (λ n. 8 * c.in-Some.c + n) k ∙ omega arith)
          (subst
          (λ j. IsWalked c.args.depth c.args.number c.args.table.now c.args.found.now.runs.items
          c.args.found.now.tables.items
          (count_of c.args.reads.now)
          (8 * c.in-Some.c + c.loop-k.k) j c.loop-k.pending c.loop-k.found.runs.items
          c.loop-k.found.tables.items
          (count_of c.loop-k.reads))
          (omega arith) c.loop-k.invariant);
    }

pub put_pending-requires-2-clause-pages : goal.put_pending-requires-2-clause-pages
put_pending-requires-2-clause-pages g t c =
    whole_small c.args.depth c.args.number c.pages_under-pages.result c.pages_under-pages.ensures.value c.requires.place

pub returns-clause-runs : goal.returns-clause-runs
returns-clause-runs g t c =
    let wide = raw_wide c.args.depth c.args.table.now c.requires.raw in
    let x =
    walk_on c.args.depth c.args.number c.args.table.now c.args.found.now.runs.items c.args.found.now.tables.items
    (count_of c.args.reads.now) (8 * c.loop-c.from)
    (8 * c.loop-c.from) c.loop-c.pending c.loop-c.found.runs.items c.loop-c.found.tables.items
    (count_of c.loop-c.reads) c.loop-c.invariant.at
    (raw_wide c.args.depth c.args.table.now c.requires.raw)
    512 512 (count_of c.go_on.new.reads) c.go_on.new.pending (omega (arith, c.loop-c.invariant.within))
    (omega arith) c.in_default.ensures.words (512 - 8 * c.loop-c.from)
    (omega (arith, c.loop-c.invariant.within)) c.in_default.ensures.reads in
    (walk_ends c.args.depth c.args.number c.args.table.now c.args.found.now.runs.items c.args.found.now.tables.items
    (count_of c.args.reads.now) 512 512 c.go_on.new.pending c.loop-c.found.runs.items c.loop-c.found.tables.items
    (count_of c.go_on.new.reads) x wide
    c.pages_under-pages.result c.put_pending-2.new.runs.items c.pages_under-pages.ensures.value (omega arith)
    (omega arith) c.in_ok-put_pending.ensures.runs c.in_ok-put_pending.ensures.map).0

pub returns-clause-map : goal.returns-clause-map
returns-clause-map g t c =
    let wide = raw_wide c.args.depth c.args.table.now c.requires.raw in
    let x =
    walk_on c.args.depth c.args.number c.args.table.now c.args.found.now.runs.items c.args.found.now.tables.items
    (count_of c.args.reads.now) (8 * c.loop-c.from)
    (8 * c.loop-c.from) c.loop-c.pending c.loop-c.found.runs.items c.loop-c.found.tables.items
    (count_of c.loop-c.reads) c.loop-c.invariant.at
    (raw_wide c.args.depth c.args.table.now c.requires.raw)
    512 512 (count_of c.go_on.new.reads) c.go_on.new.pending (omega (arith, c.loop-c.invariant.within))
    (omega arith) c.in_default.ensures.words (512 - 8 * c.loop-c.from)
    (omega (arith, c.loop-c.invariant.within)) c.in_default.ensures.reads in
    (walk_ends c.args.depth c.args.number c.args.table.now c.args.found.now.runs.items c.args.found.now.tables.items
    (count_of c.args.reads.now) 512 512 c.go_on.new.pending c.loop-c.found.runs.items c.loop-c.found.tables.items
    (count_of c.go_on.new.reads) x wide
    c.pages_under-pages.result c.put_pending-2.new.runs.items c.pages_under-pages.ensures.value (omega arith)
    (omega arith) c.in_ok-put_pending.ensures.runs c.in_ok-put_pending.ensures.map).1

pub returns-clause-tables : goal.returns-clause-tables
returns-clause-tables g t c =
    let x =
    walk_on c.args.depth c.args.number c.args.table.now c.args.found.now.runs.items c.args.found.now.tables.items
    (count_of c.args.reads.now) (8 * c.loop-c.from)
    (8 * c.loop-c.from) c.loop-c.pending c.loop-c.found.runs.items c.loop-c.found.tables.items
    (count_of c.loop-c.reads) c.loop-c.invariant.at
    (raw_wide c.args.depth c.args.table.now c.requires.raw)
    512 512 (count_of c.go_on.new.reads) c.go_on.new.pending (omega (arith, c.loop-c.invariant.within))
    (omega arith) c.in_default.ensures.words (512 - 8 * c.loop-c.from)
    (omega (arith, c.loop-c.invariant.within)) c.in_default.ensures.reads in
    x.tables
    ∙ ap (λ xs. c.args.found.now.tables.items ++ xs)
    (before_all c.args.depth c.args.number 512 c.args.table.now (omega arith) (omega arith))

pub returns-clause-reads : goal.returns-clause-reads
returns-clause-reads g t c =
    let x =
    walk_on c.args.depth c.args.number c.args.table.now c.args.found.now.runs.items c.args.found.now.tables.items
    (count_of c.args.reads.now) (8 * c.loop-c.from)
    (8 * c.loop-c.from) c.loop-c.pending c.loop-c.found.runs.items c.loop-c.found.tables.items
    (count_of c.loop-c.reads) c.loop-c.invariant.at
    (raw_wide c.args.depth c.args.table.now c.requires.raw)
    512 512 (count_of c.go_on.new.reads) c.go_on.new.pending (omega (arith, c.loop-c.invariant.within))
    (omega arith) c.in_default.ensures.words (512 - 8 * c.loop-c.from)
    (omega (arith, c.loop-c.invariant.within)) c.in_default.ensures.reads in
    let all =
    tables_all c.args.depth 512 c.args.table.now (raw_wide c.args.depth c.args.table.now c.requires.raw)
    (omega arith) in
    read_all (count_of c.args.reads.now) (count_of c.go_on.new.reads) 512
    (slots_before c.args.depth c.args.table.now 512) (tables_in c.args.depth c.args.table.now) 18446744073709551615
    (omega arith) (omega arith) (x.fits (omega arith)) x.reads all
