use Rattle.std.proofs.Common.{◌+◌, ◌∙◌, sym, arith}
use Rattle.std.proofs.lemmas.Result.{IfOk-from_err}
use Rattle.page_state.specs.Geometries.{pages_below}
use Rattle.page_state.specs.LayoutView.{layout_of}
use Rattle.page_state.specs.Rows.{advance_row}
use Rattle.run_list.specs.Runs.{run_map}
use Rattle.run_list.proofs.Maps.{ends_later}
use Rattle.ghost_rows.specs.RowsLaid.{run_below}
use Rattle.ghost_rows.proofs.RowsLaid.{lent-one}
use Rattle.ghost_rows.proofs.rows.loans.lend_next.Goals as goal

pub returns-in_err-put_behind-clause-end : goal.returns-in_err-put_behind-clause-end
returns-in_err-put_behind-clause-end c = IfOk-from_err _ _ c.from_residual.ensures.0

pub returns-in_err-put_behind-clause-map : goal.returns-in_err-put_behind-clause-map
returns-in_err-put_behind-clause-map c = IfOk-from_err _ _ c.from_residual.ensures.0

pub returns-in_err-put_behind-clause-kept : goal.returns-in_err-put_behind-clause-kept
returns-in_err-put_behind-clause-kept c = IfOk-from_err _ _ c.from_residual.ensures.0

pub returns-in_err-put_behind-clause-behind : goal.returns-in_err-put_behind-clause-behind
returns-in_err-put_behind-clause-behind c = IfOk-from_err _ _ c.from_residual.ensures.0

pub returns-then-frames-high-clause-map : goal.returns-then-frames-high-clause-map
returns-then-frames-high-clause-map c = tt

pub returns-then-frames-high-clause-behind : goal.returns-then-frames-high-clause-behind
returns-then-frames-high-clause-behind c = tt

pub returns-in_default-clause-kept : goal.returns-in_default-clause-kept
returns-in_default-clause-kept c = c.requires.kept

pub returns-then-frames-high-clause-kept : goal.returns-then-frames-high-clause-kept
returns-then-frames-high-clause-kept c = c.requires.kept

pub returns-then-frames-eq0-clause-kept : goal.returns-then-frames-eq0-clause-kept
returns-then-frames-eq0-clause-kept c = c.requires.kept

pub returns-in_default-clause-behind : goal.returns-in_default-clause-behind
returns-in_default-clause-behind c = c.requires.behind

pub put_behind-requires-clause-kept : goal.put_behind-requires-clause-kept
put_behind-requires-clause-kept c = c.requires.kept

pub put_behind-requires-clause-behind : goal.put_behind-requires-clause-behind
put_behind-requires-clause-behind c = c.requires.behind

pub returns-clause-map : goal.returns-clause-map
returns-clause-map c =
    λ f. lent-one c.args.number f (run_map advance_row c.args.rows.now.items)
    (run_map advance_row c.put_behind.new.rows.items) c.loan.result
    (run_below (pages_below (layout_of c.args.layout.now).depth) c.args.run) c.args.state c.in-Some.frames
    (sym c.in-Some.is ∙ c.frames_of.ensures.frames)
    c.loan.ensures
    c.in_ok-put_behind.ensures.map

pub returns-then-frames-eq0-clause-behind : goal.returns-then-frames-eq0-clause-behind
returns-then-frames-eq0-clause-behind c =
    ends_later (c.args.high + 1) (c.in-Some.frames.first.0 + 1) c.args.rows.now.items
    (omega (arith, c.if-frames-high.false)) c.requires.behind
