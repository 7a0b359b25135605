-- Tables in hand for a change of a tree.
use Rattle.std.specs.Prelude.{◌≡◌, ℕ, ◌+◌, ◌≤◌, List, length}
use Rattle.hyp_pool.specs.Pools.{StoredFrames}
use Rattle.page_state.specs.Tables.{Edit}
use Rattle.table_tree.specs.declared.tree.Tree.{Tree}
use Rattle.walk_plan.specs.Hands.{AreApart, need_in}

-- tables with these frames are exactly those that the change needs, apart from the tree's and from
-- the free ones, and the pool has room for them
pub record AreInHand {A : Type 0} (e : Edit) (t : Tree A) (p : StoredFrames)
    (fs : List ℕ) : Type 0 where
  pub just : length fs ≡ need_in t e
  pub apart : AreApart t fs p
  pub room : length fs + length p.frames ≤ p.room
