use Rattle.std.proofs.Common.{◌∙◌, ◌^◌, ℕ, Option, Some, ap, arith}
use Rattle.page_state.specs.declared.row.Row.{Row}
use Rattle.page_state.specs.Rows.{advance_row}
use Rattle.run_list.specs.Runs.{run_map, map_updated}
use Rattle.ghost_rows.specs.RowsLaid.{used_row}
use Rattle.ghost_rows.proofs.RowsLaid.{used-range}
use Rattle.ghost_rows.proofs.rows.frame_uses.use_range.Goals as goal

pub returns-clause-map : goal.returns-clause-map
returns-clause-map c = λ f less.
    ap (λ (m : ℕ → Option Row). m f) c.in_ok-lay.ensures.map
    ∙ ap
    (λ (n : ℕ). map_updated advance_row (run_map advance_row c.args.rows.now.runs) c.args.frames.first.0 n
    (Some (used_row c.args.usage)) f) c.min.ensures
    ∙ used-range c.args.frames.first.0 c.args.frames.count (2 ^ 26) f c.args.usage
    (run_map advance_row c.args.rows.now.runs) (omega (arith, c.if-frames-ge-FRAMES.false)) less
