use Rattle.std.proofs.Common.{ap, sym, length, arith, Option}
use Rattle.std.specs.Option.{option_or}
use Rattle.page_state.specs.declared.row.Row.{Row}
use Rattle.page_state.specs.LayoutView.{layout_of}
use Rattle.page_state.specs.Rows.{advance_row}
use Rattle.run_list.specs.Runs.{run_map}
use Rattle.ghost_rows.specs.RowsLaid.{guest_use, guests_in}
use Rattle.ghost_rows.proofs.RowsLaid.{first-end, pools-more}
use Rattle.ghost_rows.proofs.rows.frame_uses.use_pools.Goals as goal

pub loop-v-init : goal.loop-v-init
loop-v-init c = record {
  map =
      λ f less. sym
      (ap (λ (o : Option Row). option_or o (run_map advance_row c.args.rows.now.runs f))
      (first-end (length c.args.guests.now)
      (guest_use (layout_of c.args.layout.now) (guests_in c.args.guests.now) f)));
  reach = c.requires.reach;
}

pub loop-v-preserved : goal.loop-v-preserved
loop-v-preserved c = record {
  map =
      λ f less. pools-more (layout_of c.args.layout.now) c.args.guests.now f c.loop-v.v c.index-guests-v.result _
      (run_map advance_row c.loop-v.rows.runs f) (run_map advance_row c.args.rows.now.runs f)
      (omega (arith, c.loop-v-test.true)) (omega arith) c.index-guests-v.is
      (rw c.as_slice.ensures.value at (c.in_ok-use_pool.ensures.map f less))
      (c.loop-v.invariant.map f less);
  reach = c.in_ok-use_pool.ensures.reach;
}
