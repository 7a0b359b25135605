use Rattle.std.proofs.Common.{◌≡◌, ℕ, ◌+◌, List, ap, sym, ◌∙◌, arith, take, drop, length}
use Rattle.page_state.specs.Tables.{put, need}
use Rattle.page_state.specs.Geometries.{levels_below}
use Rattle.page_state.specs.Counts.{frame_count}
use Rattle.page_state.proofs.Counts.{count_parts}
use Rattle.table_tree.specs.Stocks.{frames_of}
use Rattle.table_tree.specs.View.{tree_of}
use Rattle.table_tree.proofs.Same.{same_uses, same_count, by_views}
use Rattle.table_tree.proofs.Sums.{tree_some}
use Rattle.walk_plan.proofs.Given.{take_drop_length, take_length}
use Rattle.layer_tests.proofs.changes.in_hand.Goals as goal

-- what is in hand and what is left are all that was free
all_free : (n : ℕ) (p taken left : List ℕ) → taken ≡ take n p → left ≡ drop n p → length taken + length left ≡ length p
all_free n p taken left e f = let x = ap length e in let y = ap length f in omega (arith, x, y, take_drop_length n p)

pub returns-clause-hand : goal.returns-clause-hand
returns-clause-hand g c =
    let t = c.args.bench.now.tree in
    let u = c.reserve.new.tree in
    let p = c.args.bench.now.pool.frames in
    let e = put c.args.range.first.0 c.args.range.count c.args.entry in
    let n = need (levels_below t.geometry) (tree_of t) e in
    let same : need (levels_below u.geometry) (tree_of u) e ≡ n =
    by_views u t c.reserve.ensures.stays.geometry c.reserve.ensures.stays.table
    (λ x y. need (levels_below x) y e) in
    let taken = c.in_ok-spare.ensures.taken in
    let all = all_free n p (frames_of c.in_ok-spare.spare.stock) c.reserve.new.pool.frames taken.frames taken.pool in
    record {
      just = ap length taken.frames ∙ take_length n p taken.enough ∙ sym same;
      apart = record {
        distinct = λ f.
            let a : frame_count f (frames_of c.in_ok-spare.spare.stock) ≡ frame_count f (take n p) =
            ap (frame_count f) taken.frames in
            let b : frame_count f c.reserve.new.pool.frames ≡ frame_count f (drop n p) =
            ap (frame_count f) taken.pool in
            omega (
              arith,
              a,
              b,
              count_parts f n p,
              c.requires.distinct f,
              same_uses u t c.reserve.ensures.stays.geometry c.reserve.ensures.stays.table f,
            );
        covered =
            omega (
              arith,
              all,
              c.requires.covered,
              c.reserve.ensures.room,
              same_count u t c.reserve.ensures.stays.geometry c.reserve.ensures.stays.table,
            );
      };
      room = omega (arith, all, tree_some t, c.requires.covered, c.reserve.ensures.room);
    }
