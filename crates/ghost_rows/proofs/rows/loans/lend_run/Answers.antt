use Rattle.std.proofs.Common.{◌∙◌, sym}
use Rattle.page_state.specs.Geometries.{pages_below}
use Rattle.page_state.specs.LayoutView.{layout_of}
use Rattle.page_state.specs.Rows.{advance_row}
use Rattle.run_list.specs.Runs.{run_map}
use Rattle.ghost_rows.specs.RowsLaid.{run_below}
use Rattle.ghost_rows.proofs.RowsLaid.{lent-one}
use Rattle.ghost_rows.proofs.rows.loans.lend_run.Goals as goal

pub returns-in_ok-lay-clause-map : goal.returns-in_ok-lay-clause-map
returns-in_ok-lay-clause-map c =
    λ f. lent-one c.args.number f (run_map advance_row c.args.rows.now.runs)
    (run_map advance_row c.lay.new.rows.runs) c.loan.result
    (run_below (pages_below (layout_of c.args.layout.now).depth) c.args.run) c.args.state c.in-Some.frames
    (sym c.in-Some.is ∙ c.frames_of.ensures.frames)
    c.loan.ensures
    c.in_ok-lay.ensures.map
