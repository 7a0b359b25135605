use Rattle.std.proofs.Common.{◌≡◌, ℕ, ◌+◌, ◌≤◌, length}
use Rattle.page_state.specs.Counts.{frame_count}
use Rattle.page_state.specs.declared.layout.Geometry.TheVariants.{Bits39}
use Rattle.table_tree.specs.View.{uses, tables_of}
use Rattle.layer_tests.proofs.changes.Bench.expect_rows.Given as goal

abbrev pub invariant-loop-row : goal.invariant-loop-row
invariant-loop-row g l =
    (l.self.tree.geometry ≡ Bits39)
    × (((f : ℕ) → uses l.self.tree f + frame_count f l.self.pool.frames ≤ 1)
    × (tables_of l.self.tree + length l.self.pool.frames ≤ l.self.pool.room + 1))
