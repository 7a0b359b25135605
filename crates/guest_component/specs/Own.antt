-- The frames of a guest: those free in its pool, and those of its tables.
use Rattle.std.specs.Prelude.{ℕ, ◌+◌, ◌≤◌, length}
use Rattle.std.specs.Coded.{×_prop, le_prop, Π_prop}
use Rattle.hyp_pool.specs.Pools.{StoredFrames}
use Rattle.page_state.specs.Counts.{frame_count}
use Rattle.table_tree.specs.declared.tree.Tree.{Tree as TableTree}
use Rattle.table_tree.specs.View.{uses, tables_of}

-- each frame is free or that of one table at most, they are 512 at most, and the pool has room for
-- as many but the root
abbrev pub HoldsOwn : {A : Type 0} → TableTree A → StoredFrames → Type 0
HoldsOwn t p =
    ((f : ℕ) → uses t f + frame_count f p.frames ≤ 1)
    × ((tables_of t + length p.frames ≤ 512) × (511 ≤ p.room))

pub HoldsOwn-prop : {A : Type 0} (t : TableTree A) (p : StoredFrames) → IsProp (HoldsOwn t p)
HoldsOwn-prop t p = ×_prop (Π_prop (λ f. le_prop)) (×_prop le_prop le_prop)
