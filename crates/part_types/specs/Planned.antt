-- The tables and frames reserved for changes of the Shared part's maps.
use Rattle.std.specs.Prelude.{◌≡◌, ℕ, ◌+◌, ◌-◌, ◌^◌, ◌≤◌, ◌++◌, List, length}
use Rattle.component.specs.View.{HasRoomFor, need_for, back_from}
use Rattle.hyp_pool.specs.Pools.{StoredFrames, IsPool}
use Rattle.reference_model.specs.declared.changes.Changes.{Changes}
use Rattle.reference_model.specs.model.Changes.{no_changes}
use Rattle.reference_model.specs.model.State.{Shared}
use Rattle.reference_model.specs.model.Step.{shared_after}
use Rattle.table_tree.specs.Stocks.{frames_of}
use Rattle.table_tree.specs.View.{spares_of}
use Rattle.part_types.specs.declared.parts.SharedPart.{SharedPart}
use Rattle.part_types.specs.declared.shared.SharedNeed.{SharedNeed}
use Rattle.part_types.specs.declared.shared.SharedPlan.{SharedPlan}
use Rattle.part_types.specs.Apart.{IsApart}
use Rattle.part_types.specs.View.{shared_of, depth_of}

module _ {A : Type 0} where
  -- the changes that a plan is for, and the frames that it has in hand, the host's first
  abbrev pub planned : SharedPlan A → Changes
  planned p = record no_changes { host = p.host.change; hyp = p.hyp.change }

  abbrev pub in_hand : SharedPlan A → List ℕ
  in_hand p = frames_of p.host.spare.stock ++ frames_of p.hyp.spare.stock

  -- the pool and the part, with these frames given back
  abbrev pub pool_with : SharedPlan A → SharedPart A → StoredFrames
  pool_with p s = record { frames = in_hand p ++ s.pool.frames; room = s.pool.room }

  abbrev pub shared_with : SharedPlan A → SharedPart A → Shared
  shared_with p s = record (shared_of s) { free = in_hand p ++ s.pool.frames }

-- a plan is for the present maps: each change has exactly the tables that it needs and room in the
-- maplets; the frames were the lowest of the pool
pub record IsPlanOf {A : Type 0} (s : SharedPart A) (p : SharedPlan A) : Type 0 where
  pub host : length (frames_of p.host.spare.stock) ≡ need_for s.host.tree p.host.change
  pub hyp : length (frames_of p.hyp.spare.stock) ≡ need_for s.hyp.tree p.hyp.change
  pub host_ready : HasRoomFor p.host.change s.host.maplets
  pub hyp_ready : HasRoomFor p.hyp.change s.hyp.maplets
  pub apart : IsApart s.host.tree s.hyp.tree (pool_with p s)
  pub pool : IsPool (pool_with p s)

-- a plan is for the maps' part of these changes
pub record PlansBoth {A : Type 0} (h : Changes) (p : SharedPlan A) : Type 0 where
  pub host : p.host.change ≡ h.host
  pub hyp : p.hyp.change ≡ h.hyp

module _ {A : Type 0} where
  -- the tables that changes of both maps need
  pub record IsNeedOf (s : SharedPart A) (h : Changes) (n : SharedNeed) : Type 0 where
    pub host : n.host ≡ need_for s.host.tree h.host
    pub hyp : n.hyp ≡ need_for s.hyp.tree h.hyp
    pub small : n.host + n.hyp ≤ 2 ^ 41

  -- a plan for the changes was made of part `s`, which is now `t`: its frames are the pool's, its
  -- tables came from the spares first
  pub record IsPlanned (h : Changes) (n : SharedNeed) (s t : SharedPart A)
      (p : SharedPlan A) : Type 0 where
    pub ready : IsPlanOf t p
    pub both : PlansBoth h p
    pub whole : shared_with p t ≡ shared_of s
    pub host_spares : spares_of t.host.tree ≡ spares_of s.host.tree - n.host
    pub hyp_spares : spares_of t.hyp.tree ≡ spares_of s.hyp.tree - n.hyp

  -- the changes were made of part `s`, which is now `t`: tables came from the spares first, and the
  -- removed ones are spares
  pub record IsMade (h : Changes) (s t : SharedPart A) : Type 0 where
    pub made : shared_of t ≡ shared_after (depth_of s) h (shared_of s)
    pub host_spares : spares_of t.host.tree
        ≡ spares_of s.host.tree - need_for s.host.tree h.host + length
        (back_from s.host.tree h.host)
    pub hyp_spares : spares_of t.hyp.tree
        ≡ spares_of s.hyp.tree - need_for s.hyp.tree h.hyp + length (back_from s.hyp.tree h.hyp)
