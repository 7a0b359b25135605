use Rattle.std.proofs.Common.{◌+◌, ◌*◌, ◌^◌, ◌≤◌, arith}
use Rattle.page_state.proofs.Geometries.{pages_most}
use Rattle.ghost_oracle.proofs.Walked.{walked_tree}
use Rattle.ghost_oracle.proofs.walk.walk.Goals as goal

pub returns-clause-tree : goal.returns-clause-tree
returns-clause-tree g c =
    walked_tree c.args.geometry c.args.table.now c.walk_table.new.found c.depth.result c.in_ok-runs.runs.items
    c.new-tables.result.items c.depth.ensures.value c.new-tables.ensures.items c.in_ok-walk_table.ensures.runs
    c.in_ok-walk_table.ensures.map c.in_ok-walk_table.ensures.tables

pub walk_table-requires-clause-place : goal.walk_table-requires-clause-place
walk_table-requires-clause-place g c = let most = pages_most c.args.geometry in
    rw c.depth.ensures.value (omega (arith, most))
