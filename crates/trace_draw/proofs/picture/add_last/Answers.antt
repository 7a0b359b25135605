use Rattle.std.proofs.Common.{arith}
use Rattle.trace_draw.proofs.Placed.{drawn_more}
use Rattle.trace_draw.proofs.picture.add_last.Goals as goal

pub loop-column-preserved : goal.loop-column-preserved
loop-column-preserved c =
    record {
      drawn = drawn_more _ _ _ _ _ c.loop-column.invariant.drawn c.area_of-area.ensures
          (omega (arith, c.requires.count_is)) c.in_ok-piece.ensures;
    }
