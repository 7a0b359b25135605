-- The tables and frames reserved for a change of a guest's map.
use Rattle.std.specs.Prelude.{◌≡◌, ◌++◌, length, Option}
use Rattle.component.specs.declared.Plan.{Plan}
use Rattle.component.specs.View.{HasRoomFor, need_for}
use Rattle.hyp_pool.specs.Pools.{StoredFrames, IsPool}
use Rattle.reference_model.specs.declared.changes.MapChange.{MapChange}
use Rattle.reference_model.specs.model.State.{Guest}
use Rattle.table_tree.specs.Stocks.{frames_of}
use Rattle.guest_component.specs.declared.body.Body.{Body}
use Rattle.guest_component.specs.Bodies.{body_of}
use Rattle.guest_component.specs.Own.{HoldsOwn}

-- the pool and the guest, with the frames that a plan has in hand given back
abbrev pub pool_with : {A : Type 0} → Plan A → Body A → StoredFrames
pool_with p b = record { frames = frames_of p.spare.stock ++ b.pool.frames; room = b.pool.room }

abbrev pub body_with : {A : Type 0} → Plan A → Body A → Guest
body_with p b = record (body_of b) { free = frames_of p.spare.stock ++ b.pool.frames }

-- a plan has exactly the tables that a change needs, with the lowest frames of the pool before, and
-- the maplets have room
pub record IsInHand {A : Type 0} (c : Option MapChange) (b : Body A) (p : Plan A) : Type 0 where
  pub change : p.change ≡ c
  pub just : length (frames_of p.spare.stock) ≡ need_for b.map.tree c
  pub ready : HasRoomFor c b.map.maplets
  pub own : HoldsOwn b.map.tree (pool_with p b)
  pub pool : IsPool (pool_with p b)
