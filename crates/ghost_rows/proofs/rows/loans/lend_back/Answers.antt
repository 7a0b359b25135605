use Rattle.std.proofs.Common.{◌≡◌, ◌∙◌, ap, drop, arith, ℕ}
use Rattle.std.specs.Option.{option_or}
use Rattle.page_state.specs.Geometries.{pages_below}
use Rattle.page_state.specs.LayoutView.{layout_of}
use Rattle.page_state.specs.Rows.{advance_row}
use Rattle.run_list.specs.Runs.{run_map}
use Rattle.ghost_rows.specs.RowsLaid.{loan_at, low_page}
use Rattle.ghost_rows.proofs.RowsLaid.{back-more}
use Rattle.ghost_rows.proofs.rows.loans.lend_back.Goals as goal

pub loop-i-preserved : goal.loop-i-preserved
loop-i-preserved c = record {
  map =
      λ f. back-more c.args.number
      (pages_below (layout_of c.args.layout.now).depth) c.args.state f c.args.runs.now c.loop-i.i _ _
      (run_map advance_row c.loop-i.rows.runs f) (run_map advance_row c.args.rows.now.runs f)
      (omega (arith, c.loop-i-test.true)) (omega arith) (c.in_ok-lend_run.ensures.map f)
      (c.loop-i.invariant.map f);
  reach = c.in_ok-lend_run.ensures.reach;
}

pub returns-clause-map : goal.returns-clause-map
returns-clause-map c = λ f.
    let start : c.loop-i.i ≡ 0 = omega (arith, c.loop-i-test.false) in
    c.loop-i.invariant.map f
    ∙ ap
    (λ (i : ℕ). option_or
    (loan_at c.args.number
    (low_page (pages_below (layout_of c.args.layout.now).depth) c.args.state f (drop i c.args.runs.now)))
    (run_map advance_row c.args.rows.now.runs f)) start
