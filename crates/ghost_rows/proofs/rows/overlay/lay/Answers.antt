use Rattle.std.proofs.Common.{ap, not, ◌∙◌}
use Rattle.page_state.specs.Rows.{advance_row}
use Rattle.run_list.specs.Runs.{run_map}
use Rattle.ghost_rows.proofs.RowsLaid.{reach-laid, nothing_taken, none_told}
use Rattle.ghost_rows.proofs.rows.overlay.lay.Goals as goal

pub returns-clause-map : goal.returns-clause-map
returns-clause-map c = rw c.in_ok-reserve.ensures.runs at c.set.ensures.map

pub returns-clause-reach : goal.returns-clause-reach
returns-clause-reach c =
    reach-laid c.args.rows.now.runs c.set.new.self.runs c.args.frames.first.0 c.args.frames.count c.args.row
    (rw c.in_ok-reserve.ensures.runs at c.set.ensures.map) c.set.ensures.coarsest c.requires.reach
    c.requires.frames c.requires.small

pub returns-then-begins_from-clause-map : goal.returns-then-begins_from-clause-map
returns-then-begins_from-clause-map c =
    nothing_taken (run_map advance_row c.args.rows.now.runs) c.args.frames.first.0 c.args.frames.count c.args.row
    (none_told c.args.row (c.is_none.ensures ∙ ap not c.if-is_none.true))
    (c.begins_from.ensures c.if-begins_from.true)
