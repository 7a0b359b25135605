-- The frames of the Shared part: those free in its pool, and those of its tables.
use Rattle.std.specs.Prelude.{ℕ, ◌+◌, ◌≤◌, length}
use Rattle.std.specs.Coded.{×_prop, le_prop, Π_prop}
use Rattle.hyp_pool.specs.Pools.{StoredFrames}
use Rattle.page_state.specs.Counts.{frame_count}
use Rattle.table_tree.specs.declared.tree.Tree.{Tree as TableTree}
use Rattle.table_tree.specs.View.{uses, tables_of}

-- each frame is free or that of one table at most, and the pool has room for all but the roots
abbrev pub IsApart : {A : Type 0} → TableTree A → TableTree A → StoredFrames → Type 0
IsApart host hyp p =
    ((f : ℕ) → uses host f + uses hyp f + frame_count f p.frames ≤ 1)
    × (tables_of host + tables_of hyp + length p.frames ≤ p.room + 2)

pub IsApart-prop : {A : Type 0} (host hyp : TableTree A) (p : StoredFrames)
    → IsProp (IsApart host hyp p)
IsApart-prop host hyp p = ×_prop (Π_prop (λ f. le_prop)) le_prop
