use Rattle.std.proofs.Common.{arith, ap, length, ◌∷◌, []}
use Rattle.std.proofs.lemmas.List.{length-append}
use Rattle.trace_draw.proofs.Placed.{before_more, order_more, right_of, whole_edges}
use Rattle.trace_draw.proofs.places.edges_of.Goals as goal

pub loop-column-preserved : goal.loop-column-preserved
loop-column-preserved c =
    let before = c.loop-column.invariant in
    let more = c.in_ok-push.ensures.items in
    record {
      count =
          omega (arith, before.count, ap length more, length-append c.loop-column.edges.items (c.loop-column.at ∷ []));
      order = order_more _ _ _ before.order before.before more;
      before = before_more _ _ _ _ more (right_of _ _ _ c.width_of.ensures c.saturating_add-at.ensures);
    }

pub returns : goal.returns
returns c =
    let before = c.loop-column.invariant in
    whole_edges _ _ _ _
    (omega (arith, before.count, c.loop-column-test.false)) before.order before.before c.in_ok-push-2.ensures.items
