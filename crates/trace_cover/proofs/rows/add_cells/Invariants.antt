use Rattle.std.proofs.Common.{◌≡◌, ◌++◌, drop, map}
use Rattle.trace_cover.specs.declared.rows.Row.TheVariants.{Cell}
use Rattle.trace_cover.proofs.rows.add_cells.Given as goal

abbrev pub invariant-loop-condition : goal.invariant-loop-condition
invariant-loop-condition l =
    l.rows.items ++ map (Cell l.call) (drop l.condition-index l.conditions)
    ≡ l.fn.rows.items ++ map (Cell l.call) l.conditions
