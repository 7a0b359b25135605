use Rattle.std.proofs.Common.{◌-◌, arith}
use Rattle.page_state.specs.Rows.{advance_row, HasPageBelow}
use Rattle.run_list.specs.Runs.{run_map}
use Rattle.run_list.proofs.Found.{reach_at}
use Rattle.ghost_rows.proofs.RowsLaid.{over-more, small-some}
use Rattle.ghost_rows.proofs.rows.overlay.lay_all.Goals as goal

pub lay-requires-clause-frames : goal.lay-requires-clause-frames
lay-requires-clause-frames c =
    (reach_at HasPageBelow (c.loop-i.i - 1) c.runs-runs.result.now _ (rw c.runs-runs.ensures.runs c.requires.over)
    (omega (arith, c.loop-i-test.true))).pages

pub lay-requires-clause-small : goal.lay-requires-clause-small
lay-requires-clause-small c =
    small-some _ _
    (reach_at HasPageBelow (c.loop-i.i - 1) c.runs-runs.result.now _ (rw c.runs-runs.ensures.runs c.requires.over)
    (omega (arith, c.loop-i-test.true))).values

pub loop-i-preserved : goal.loop-i-preserved
loop-i-preserved c = record {
  map =
      over-more c.runs-runs.result.now c.loop-i.i _ (run_map advance_row c.loop-i.rows.runs)
      (run_map advance_row c.lay.new.rows.runs) (run_map advance_row c.args.rows.now.runs)
      (omega (arith, c.loop-i-test.true)) (omega arith) c.loop-i.invariant.map c.in_ok-lay.ensures.map;
  reach = c.in_ok-lay.ensures.reach;
}
