use Rattle.std.proofs.Common.{sym, ap, ◌∙◌, arith}
use Rattle.std.specs.Prelude.{not}
use Rattle.page_state.specs.LayoutView.{layout_of}
use Rattle.ghost_spec.proofs.TableCounts.{standing, counted_one, counted_again, counted_off, all_counted}
use Rattle.ghost_spec.proofs.guest_rules.table_count.Goals as goal
use Rattle.ghost_spec.proofs.guest_rules.table_count.Goals.{then-has_place+then-is_none, else-has_place, else-has_place-via-then-has_place+else-is_none, else-has_place-via-else-has_place}

pub loop-i-preserved : goal.loop-i-preserved
loop-i-preserved c =
    let depth = (layout_of c.args.layout.now).depth in
    let ts = c.as_slice-tables.result.now in
    elim c.if-has_place.branch [
      | then-has_place+then-is_none w ↦ record {
        counted =
            counted_one depth c.loop-i.i c.loop-i.count c.if-has_place.count ts _ c.loop-i-test.true
            c.loop-i.invariant.counted
            (sym c.has_place.ensures ∙ w.if-has_place.true)
            (rw w.table_at.ensures at (w.is_none.ensures ∙ ap not w.if-is_none.true)) w.count-is;
        few = omega (arith, w.count-is, c.loop-i.invariant.few);
      }
      | else-has_place w ↦ record {
        counted = elim w.else-has_place.branch [
          | else-has_place-via-then-has_place+else-is_none v ↦ counted_again depth c.loop-i.i c.loop-i.count
              c.if-has_place.count ts _ c.loop-i-test.true c.loop-i.invariant.counted
              (sym c.has_place.ensures ∙ v.if-has_place.true)
              (rw v.table_at.ensures at (v.is_none.ensures ∙ ap not v.if-is_none.false)) w.count-is
          | else-has_place-via-else-has_place v ↦ counted_off depth c.loop-i.i c.loop-i.count c.if-has_place.count ts _
              c.loop-i-test.true c.loop-i.invariant.counted
              (sym c.has_place.ensures ∙ v.if-has_place.false) w.count-is
        ];
        few = omega (arith, w.count-is, c.loop-i.invariant.few);
      }
    ]

pub returns : goal.returns
returns c =
    all_counted
    (layout_of c.args.layout.now).depth c.loop-i.i c.loop-i.count c.as_slice-tables.result.now c.loop-i-test.false
    c.loop-i.invariant.counted
    ∙ ap (standing (layout_of c.args.layout.now).depth) c.as_slice-tables.ensures.value
