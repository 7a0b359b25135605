use Rattle.std.proofs.Common.{◌≡◌, ◌+◌, min}
use Rattle.table_tree.specs.Stocks.{kept_in}
use Rattle.table_tree.proofs.spares.Spares.grow.Given as goal

abbrev pub invariant-loop-made : goal.invariant-loop-made
invariant-loop-made g l = kept_in l.self + min (kept_in l.initial.self) l.n ≡ kept_in l.initial.self + l._made
