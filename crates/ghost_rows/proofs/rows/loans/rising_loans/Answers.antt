use Rattle.std.proofs.Common.{◌<◌, ◌∙◌, ℕ, List, None, Option, ap, arith, length, sym, take, take_all}
use Rattle.std.proofs.lemmas.Result.{IfOk-from_err}
use Rattle.page_state.specs.declared.row.Row.{Row}
use Rattle.page_state.specs.Geometries.{pages_below}
use Rattle.page_state.specs.LayoutView.{layout_of}
use Rattle.page_state.specs.Rows.{advance_row}
use Rattle.run_list.specs.declared.run.Run.{Run}
use Rattle.run_list.specs.Runs.{run_map}
use Rattle.ghost_rows.specs.RowsLaid.{loan_at, low_page}
use Rattle.ghost_rows.proofs.RowsAhead.{lent-more, next-above, none-more, or-none, rises-more}
use Rattle.ghost_rows.proofs.RowsPages.{low_page-is}
use Rattle.ghost_rows.proofs.rows.loans.rising_loans.Goals as goal

pub returns-in_err-rows-clause-map : goal.returns-in_err-rows-clause-map
returns-in_err-rows-clause-map c = IfOk-from_err _ _ c.from_residual.ensures.0

pub returns-in_err-rows-clause-reach : goal.returns-in_err-rows-clause-reach
returns-in_err-rows-clause-reach c = IfOk-from_err _ _ c.from_residual.ensures.0

pub returns-in_err-rows-clause-rises : goal.returns-in_err-rows-clause-rises
returns-in_err-rows-clause-rises c = IfOk-from_err _ _ c.from_residual.ensures.0

pub returns-in_err-end-clause-map : goal.returns-in_err-end-clause-map
returns-in_err-end-clause-map c = IfOk-from_err _ _ c.from_residual-in_err-end.ensures.0

pub returns-in_err-end-clause-reach : goal.returns-in_err-end-clause-reach
returns-in_err-end-clause-reach c = IfOk-from_err _ _ c.from_residual-in_err-end.ensures.0

pub returns-in_err-end-clause-rises : goal.returns-in_err-end-clause-rises
returns-in_err-end-clause-rises c = IfOk-from_err _ _ c.from_residual-in_err-end.ensures.0

pub returns-in_default-clause-map : goal.returns-in_default-clause-map
returns-in_default-clause-map c = tt

pub returns-in_default-clause-reach : goal.returns-in_default-clause-reach
returns-in_default-clause-reach c = tt

pub lend_next-requires-clause-kept : goal.lend_next-requires-clause-kept
lend_next-requires-clause-kept c = c.loop-i.invariant.kept

pub lend_next-requires-clause-behind : goal.lend_next-requires-clause-behind
lend_next-requires-clause-behind c = c.loop-i.invariant.behind

pub loop-i-preserved : goal.loop-i-preserved
loop-i-preserved c =
    let limit : ℕ = pages_below (layout_of c.args.layout.now).depth in
    let within : c.loop-i.i < length c.args.runs.now = omega arith in
    let lent = rw c.in-Some.is at c.in_ok-end.ensures.map in
    let told = sym c.in-Some.is ∙ c.in_ok-end.ensures.end in
    record {
      map =
          λ f. lent-more limit c.args.state f c.args.number c.loop-i.high c.in-Some.end c.args.runs.now c.loop-i.i _
          (run_map advance_row c.lend_next.new.rows.items f)
          (run_map advance_row c.loop-i.rows.items f) None within
          (next-above limit c.args.state f c.loop-i.high c.in-Some.end _ told) (c.loop-i.invariant.high f)
          (lent f) (c.loop-i.invariant.map f);
      high =
          λ f h. none-more limit c.args.state f c.loop-i.high c.in-Some.end c.args.runs.now c.loop-i.i _ within
          (next-above limit c.args.state f c.loop-i.high c.in-Some.end _ told) (c.loop-i.invariant.high f) h;
      rises =
          c.loop-i.invariant.rises
          ∙ rises-more limit c.args.state c.loop-i.high c.in-Some.end c.args.runs.now c.loop-i.i _ within told;
      kept = c.in_ok-end.ensures.kept;
      behind = rw c.in-Some.is at c.in_ok-end.ensures.behind;
    }

pub returns-clause-map : goal.returns-clause-map
returns-clause-map c = λ f.
    let limit : ℕ = pages_below (layout_of c.args.layout.now).depth in
    ap (λ (rs : List (Run Row)). run_map advance_row rs f) c.of.ensures
    ∙ c.loop-i.invariant.map f
    ∙ or-none (loan_at c.args.number (low_page limit c.args.state f (take c.loop-i.i c.args.runs.now)))
    ∙ ap (λ rs. loan_at c.args.number (low_page limit c.args.state f rs))
    (take_all c.loop-i.i c.args.runs.now (omega (arith, c.loop-i-test.false)))
    ∙ ap (λ (o : Option ℕ). loan_at c.args.number o)
    (low_page-is (layout_of c.args.layout.now) c.args.state f c.args.runs.now c.requires.coarsest)
