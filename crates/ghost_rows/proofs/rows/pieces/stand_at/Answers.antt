use Rattle.std.proofs.Common.{◌<◌, length, arith}
use Rattle.page_state.specs.declared.row.Row.{Row}
use Rattle.page_state.specs.Rows.{plain_row, HasPageBelow}
use Rattle.run_list.specs.declared.run.Run.{Run}
use Rattle.run_list.proofs.Found.{reach_at}
use Rattle.ghost_rows.proofs.ListedRows.{stand-behind, stand-before, stand-inside}
use Rattle.ghost_rows.proofs.rows.pieces.stand_at.Goals as goal

abbrev no_run : Run Row
no_run = record { pages = record { first = record { 0 = 0 }; count = 0 }; value = plain_row }

pub returns-then-place-runs : goal.returns-then-place-runs
returns-then-place-runs c =
    stand-behind c.args.runs.now c.args.frame c.args.place c.requires.place _ (omega (arith, c.if-place-runs.true))
    (omega (arith, c.requires.low))

pub returns-then-frame-pages : goal.returns-then-frame-pages
returns-then-frame-pages c =
    stand-before c.args.runs.now c.args.frame c.args.place c.requires.place
    (omega (arith, c.requires.place.within, c.if-place-runs.false)) _ c.if-frame-pages.true

pub overflow_add-result : goal.overflow_add-result
overflow_add-result c =
    let less : c.args.place < length c.args.runs.now = omega (arith, c.requires.place.within, c.if-place-runs.false) in
    let reach = (reach_at HasPageBelow c.args.place c.args.runs.now no_run c.requires.reach less).pages in
    omega (arith, reach)

pub returns : goal.returns
returns c =
    stand-inside c.args.runs.now c.args.frame c.args.place c.requires.place
    (omega (arith, c.requires.place.within, c.if-place-runs.false)) _ (omega (arith, c.if-frame-pages.false))
