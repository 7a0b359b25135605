use Rattle.std.proofs.Common.{◌+◌, drop, get_or, sym, ◌∙◌}
use Rattle.page_state.specs.declared.row.Row.{Row}
use Rattle.page_state.specs.Rows.{advance_row, plain_row, HasPageBelow}
use Rattle.run_list.specs.declared.run.Run.{Run}
use Rattle.run_list.specs.OwnerRows.{row_eq, row_laws}
use Rattle.ghost_judge.specs.inner.Same.{marked}
use Rattle.ghost_judge.proofs.Apart.{left_all}
use Rattle.ghost_judge.proofs.Marked.{left_alone, left_apart, left_begin, left_next, marked_kept}
use Rattle.ghost_judge.proofs.rows.first_row_apart.Goals as goal

abbrev none : Run Row
none = record { pages = record { first = record { 0 = 0 }; count = 0 }; value = plain_row }

pub loop-k-init : goal.loop-k-init
loop-k-init c =
    left_all advance_row HasPageBelow row_eq row_laws (marked c.args.a.now) (marked c.args.b.now)
    (marked_kept c.args.a.now c.requires.a) (marked_kept c.args.b.now c.requires.b)

pub returns-in_default : goal.returns-in_default
returns-in_default c =
    left_begin (marked c.args.a.now) (marked c.args.b.now) (marked (drop c.loop-k.i c.args.a.now))
    (marked (drop c.loop-k.j c.args.b.now)) c.begin_from.result c.in_default.ensures c.begin_from.ensures
    c.loop-k.invariant

pub returns-in_default-next_marked : goal.returns-in_default-next_marked
returns-in_default-next_marked c =
    left_alone (marked c.args.a.now) (marked c.args.b.now) (marked (drop c.loop-k.i c.args.a.now))
    (marked (drop c.loop-k.j c.args.b.now)) (marked (drop (c.in-Some.k + 1) c.args.a.now))
    (get_or c.args.a.now c.in-Some.k none)
    (c.in-Some.ensures.rest none) c.in_default-next_marked.ensures c.loop-k.invariant

pub returns-then-is_some : goal.returns-then-is_some
returns-then-is_some c =
    left_apart (marked c.args.a.now) (marked c.args.b.now) (marked (drop c.loop-k.i c.args.a.now))
    (marked (drop c.loop-k.j c.args.b.now)) (marked (drop (c.in-Some.k + 1) c.args.a.now))
    (marked (drop (c.in-Some-next_marked.l + 1) c.args.b.now)) (get_or c.args.a.now c.in-Some.k none)
    (get_or c.args.b.now c.in-Some-next_marked.l none) c.parted-frame.result
    (c.in-Some.ensures.rest none) (c.in-Some-next_marked.ensures.rest none) c.parted-frame.ensures
    (sym c.is_some.ensures ∙ c.if-is_some.true) c.loop-k.invariant

pub loop-k-preserved : goal.loop-k-preserved
loop-k-preserved c =
    left_next (marked c.args.a.now) (marked c.args.b.now) (marked (drop c.loop-k.i c.args.a.now))
    (marked (drop c.loop-k.j c.args.b.now)) (marked (drop (c.in-Some.k + 1) c.args.a.now))
    (marked (drop (c.in-Some-next_marked.l + 1) c.args.b.now)) (get_or c.args.a.now c.in-Some.k none)
    (get_or c.args.b.now c.in-Some-next_marked.l none) c.parted-frame.result
    (c.in-Some.ensures.rest none) (c.in-Some-next_marked.ensures.rest none) c.parted-frame.ensures
    (sym c.is_some.ensures ∙ c.if-is_some.false) c.loop-k.invariant
