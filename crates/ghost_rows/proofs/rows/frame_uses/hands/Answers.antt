use Rattle.std.proofs.Common.{sym, length, arith}
use Rattle.page_state.specs.Rows.{advance_row}
use Rattle.run_list.specs.Runs.{run_map}
use Rattle.ghost_rows.specs.RowsLaid.{hand_use, cpus_in}
use Rattle.ghost_rows.proofs.RowsLaid.{first-end, hands-more}
use Rattle.ghost_rows.proofs.rows.frame_uses.hands.Goals as goal

pub loop-i-init : goal.loop-i-init
loop-i-init c = rw c.new-rows.ensures (record {
  map = λ f less. sym (first-end (length c.args.cpus.now) (hand_use (cpus_in c.args.cpus.now) f));
  reach = tt;
})

pub loop-i-preserved : goal.loop-i-preserved
loop-i-preserved c = record {
  map =
      λ f less. hands-more c.args.cpus.now f c.loop-i.i _ _ (run_map advance_row c.loop-i.rows.runs f)
      (omega (arith, c.loop-i-test.true)) (omega arith) (c.in_ok-use_hand.ensures.map f less)
      (c.loop-i.invariant.map f less);
  reach = c.in_ok-use_hand.ensures.reach;
}
