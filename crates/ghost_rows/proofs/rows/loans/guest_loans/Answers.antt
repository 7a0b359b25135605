use Rattle.std.proofs.Common.{sym, length, arith}
use Rattle.page_state.specs.LayoutView.{layout_of}
use Rattle.page_state.specs.Rows.{advance_row}
use Rattle.run_list.specs.Runs.{run_map}
use Rattle.ghost_rows.specs.RowsLaid.{guest_loan, guests_in}
use Rattle.ghost_rows.proofs.RowsLaid.{first-end, loans-more}
use Rattle.ghost_rows.proofs.rows.loans.guest_loans.Goals as goal

pub loop-v-init : goal.loop-v-init
loop-v-init c = rw c.new-rows.ensures (record {
  map =
      λ f. sym
      (first-end (length c.args.guests.now)
      (guest_loan (layout_of c.args.layout.now) (guests_in c.args.guests.now) c.args.state f));
  reach = tt;
})

pub loop-v-preserved : goal.loop-v-preserved
loop-v-preserved c = record {
  map =
      λ f. loans-more
      (layout_of c.args.layout.now) c.args.guests.now c.args.state f c.loop-v.v c.index-guests-v.result _
      (run_map advance_row c.loop-v.rows.runs f) (omega (arith, c.loop-v-test.true)) (omega arith)
      (c.in_ok-lend_tree.ensures.map f) (c.loop-v.invariant.map f);
  reach = c.in_ok-lend_tree.ensures.reach;
}
