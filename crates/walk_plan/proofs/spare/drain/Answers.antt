use Rattle.std.proofs.Common.{◌≡◌, ◌∷◌, sym, ap, arith, ◌∙◌, length}
use Rattle.page_state.specs.Tables.{all_given}
use Rattle.page_state.specs.Counts.{frame_count}
use Rattle.page_state.proofs.Counts.{count_next}
use Rattle.table_tree.specs.Meaning.{frame_of}
use Rattle.table_tree.specs.Stocks.{frames_of}
use Rattle.walk_plan.proofs.Given.{given_through, not_there, one_self}
use Rattle.walk_plan.proofs.spare.drain.Goals as goal

pub give-requires-clause-new : goal.give-requires-clause-new
give-requires-clause-new g c =
    let x = c.frame.result.0 in
    let frames = rw c.in-Some.is at c.pop.ensures.frames in
    let e : x ≡ frame_of c.in-Some.table.value = c.frame.ensures ∙ ap (λ t. frame_of t) c.deref.ensures in
    let a =
    ap (frame_count x) (frames ∙ ap (λ f. f ∷ frames_of c.pop.new.self) (sym e))
    ∙ count_next x x (frames_of c.pop.new.self) in
    not_there c.counted_frames.ensures.contains x c.loop-table.pool.frames
    (omega (arith, a, one_self x, c.loop-table.invariant.distinct x))

pub loop-table-preserved : goal.loop-table-preserved
loop-table-preserved g c =
    let x = c.frame.result.0 in
    let p = c.loop-table.pool.frames in
    let fs = frames_of c.pop.new.self in
    let e : x ≡ frame_of c.in-Some.table.value = c.frame.ensures ∙ ap (λ t. frame_of t) c.deref.ensures in
    let frames : frames_of c.loop-table.stock ≡ x ∷ fs =
    rw c.in-Some.is at c.pop.ensures.frames ∙ ap (λ f. f ∷ fs) (sym e) in
    let given = c.give.ensures.frames in
    record {
      frames =
          ap (all_given fs) given ∙ given_through c.given_in_any_order.ensures.swap fs x p
          ∙ ap (λ l. all_given l p) (sym frames) ∙ c.loop-table.invariant.frames;
      room = c.give.ensures.room ∙ c.loop-table.invariant.room;
      spares = omega (arith, ap length frames, c.keep_spare.ensures.spares, c.loop-table.invariant.spares);
      geometry = c.keep_spare.ensures.geometry ∙ c.loop-table.invariant.geometry;
      table = c.keep_spare.ensures.table ∙ c.loop-table.invariant.table;
      distinct =
          λ f. omega (
            arith,
            ap (frame_count f) frames ∙ count_next f x fs,
            ap (frame_count f) given
                ∙ c.given_one.ensures.count x f p ∙ count_next f x p,
            c.loop-table.invariant.distinct f,
          );
      covered =
          omega (
            arith,
            ap length frames,
            ap length given
                ∙ c.given_one.ensures.length x p,
            c.give.ensures.room,
            c.loop-table.invariant.covered,
          );
    }
