-- A change of a tree with tables in hand: the tables that it needs, takes, leaves and gives back.
-- `t` and `p` are the tree and the pool before, `u` and `q` afterwards.
use Rattle.std.specs.Prelude.{◌≡◌, ℕ, ◌+◌, ◌-◌, ◌<◌, ◌≤◌, ◌↔◌, List, length, take, drop}
use Rattle.hyp_pool.specs.Pools.{StoredFrames}
use Rattle.hyp_pool.specs.declared.PoolFault.{PoolFault}
use Rattle.hyp_pool.specs.declared.PoolFault.TheVariants.{NoPool, NoMemory}
use Rattle.page_state.specs.declared.entry.Entry.{Entry}
use Rattle.page_state.specs.declared.entry.PageRange.{PageRange}
use Rattle.page_state.specs.declared.layout.Geometry.{Geometry}
use Rattle.page_state.specs.Counts.{frame_count}
use Rattle.page_state.specs.Geometries.{levels_below, input_pages}
use Rattle.page_state.specs.Regions.{end_of}
use Rattle.page_state.specs.Tables.{Edit, put, need, returned, edited, all_given}
use Rattle.page_state.specs.Trees.{Tree as ReferenceTree}
use Rattle.table_tree.specs.declared.tree.Tree.{Tree}
use Rattle.table_tree.specs.View.{tree_of, uses, tables_of, root_of, spares_of}
use Rattle.walk_plan.specs.Changes.{IsEncodableOn}

-- the edit of a range, whose first page gets the entry
abbrev pub edit_on : PageRange → Entry → Edit
edit_on r e = put r.first.0 r.count e

-- the change is of at least one page, all of them in the tree, and words of the last level can
-- encode it
pub record FitsTree (g : Geometry) (r : PageRange) (e : Entry) : Type 0 where
  pub some : 1 ≤ r.count
  pub within : end_of r ≤ input_pages g
  pub entry_in : IsEncodableOn r.count e

module _ {A : Type 0} where
  -- the tables that an edit of a tree needs
  abbrev pub need_in : Tree A → Edit → ℕ
  need_in t e = need (levels_below t.geometry) (tree_of t) e

  -- the tree after the change; the new tables get the lowest of these frames
  abbrev pub after_in : Tree A → Edit → List ℕ → ReferenceTree
  after_in t e fs = edited (levels_below t.geometry) (tree_of t) e fs

  -- the frames that come back
  abbrev pub back_in : Tree A → Edit → List ℕ
  back_in t e = returned (levels_below t.geometry) (tree_of t) e

  -- the tree stays, apart from its spares
  pub record Stays (t u : Tree A) : Type 0 where
    pub geometry : u.geometry ≡ t.geometry
    pub table : u.table ≡ t.table

  -- each frame is in hand, free, or that of one table at most, and the pool has room for all but
  -- the root's
  pub record AreApart (t : Tree A) (fs : List ℕ) (p : StoredFrames) : Type 0 where
    pub distinct : (f : ℕ) → uses t f + frame_count f fs + frame_count f p.frames ≤ 1
    pub covered : tables_of t + length fs + length p.frames ≤ p.room + 1

  -- the pool's `n` lowest frames were taken in hand, with a table for each, the tree's spares first
  pub record IsTaken (n : ℕ) (t : Tree A) (p : StoredFrames) (u : Tree A) (q : StoredFrames)
      (fs : List ℕ) : Type 0 where
    pub frames : fs ≡ take n p.frames
    pub pool : q.frames ≡ drop n p.frames
    pub enough : n ≤ length p.frames
    pub spares : spares_of u ≡ spares_of t - n

  -- nothing was taken, though the tree may have more spares
  pub record IsLeft (t : Tree A) (p : StoredFrames) (u : Tree A) (q : StoredFrames) : Type 0 where
    pub pool : q ≡ p
    pub spares : spares_of t ≤ spares_of u

  -- the reason why `n` tables weren't taken: NoPool if and only if fewer frames are free, NoMemory
  -- only if the spares are too few
  pub record IsRefused (n : ℕ) (t : Tree A) (p : StoredFrames) (u : Tree A) (q : StoredFrames)
      (fault : PoolFault) : Type 0 where
    pub left : IsLeft t p u q
    pub no_pool : (fault ≡ NoPool) ↔ (length p.frames < n)
    pub no_memory : fault ≡ NoMemory → spares_of t < n

  -- frames in hand went back to the pool, and their tables to the tree's spares
  pub record IsGivenBack (fs : List ℕ) (t : Tree A) (p : StoredFrames) (u : Tree A)
      (q : StoredFrames) : Type 0 where
    pub stays : Stays t u
    pub frames : q.frames ≡ all_given fs p.frames
    pub room : q.room ≡ p.room
    pub spares : spares_of u ≡ spares_of t + length fs

  -- no frame is lost between hand, tree and pool; geometry, root and room stay
  pub record KeepsFrames (t : Tree A) (fs : List ℕ) (p : StoredFrames) (u : Tree A)
      (q : StoredFrames) : Type 0 where
    pub geometry : u.geometry ≡ t.geometry
    pub root : root_of u ≡ root_of t
    pub room : q.room ≡ p.room
    pub frames : (f : ℕ)
        → uses u f + frame_count f q.frames ≡ uses t f + frame_count f fs + frame_count f p.frames
    pub tables : tables_of u + length q.frames ≡ tables_of t + length fs + length p.frames

  -- an edit was made with these frames in hand; the frames and tables that went are the pool's and
  -- the spares
  pub record IsEdited (e : Edit) (fs : List ℕ) (t : Tree A) (p : StoredFrames) (u : Tree A)
      (q : StoredFrames) : Type 0 where
    pub tree : tree_of u ≡ after_in t e fs
    pub pool : q.frames ≡ all_given (back_in t e) p.frames
    pub spares : spares_of u ≡ spares_of t + length (back_in t e)
    pub keeps : KeepsFrames t fs p u q

  -- an edit was made, with the pool's lowest frames and the tree's spares
  pub record IsChanged (e : Edit) (t : Tree A) (p : StoredFrames) (u : Tree A)
      (q : StoredFrames) : Type 0 where
    pub enough : need_in t e ≤ length p.frames
    pub tree : tree_of u ≡ after_in t e p.frames
    pub pool : q.frames ≡ all_given (back_in t e) (drop (need_in t e) p.frames)
    pub spares : spares_of u ≡ spares_of t - need_in t e + length (back_in t e)
