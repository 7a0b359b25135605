use Rattle.std.proofs.Common.{rules, ◌∙◌, ap, sym}
use Rattle.page_state.specs.Regions.{is_memory_kind}
use Rattle.page_state.specs.Rows.{advance_row, plain_row}
use Rattle.page_state.proofs.Common.{if-true}
use Rattle.run_list.specs.Runs.{run_map}
use Rattle.owner_table.specs.Rows.{rows_set}
use Rattle.owner_table.proofs.fill.Goals as goal

pub returns-in-Memory-clause-map : goal.returns-in-Memory-clause-map
returns-in-Memory-clause-map c =
    let old = run_map advance_row c.args.rows.now.runs in
    let given = rows_set old c.args.region.pages plain_row in
    c.set.ensures.map
    ∙ ap (rows_set old c.args.region.pages) c.plain.ensures
    ∙ sym (if-true (is_memory_kind c.args.region.kind) given old (ap is_memory_kind c.in-Memory.is))

pub returns-in-Device-clause-map : goal.returns-in-Device-clause-map
returns-in-Device-clause-map c = search rules
