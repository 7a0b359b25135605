-- The conditions on a change of a guest.
use Rattle.std.specs.Prelude.{◌≡◌, ◌≢◌, ℕ, ◌+◌, ◌≤◌, ◌^◌, true, is_some, length, drop, Option}
use Rattle.hyp_pool.specs.Pools.{StoredFrames}
use Rattle.page_state.specs.declared.entry.PageRange.{PageRange}
use Rattle.page_state.specs.Counts.{frame_count}
use Rattle.page_state.specs.Layouts.{Layout}
use Rattle.page_state.specs.Regions.{end_of, is_in_range}
use Rattle.page_state.specs.Tables.{need, edited, returned, all_given}
use Rattle.reference_model.specs.declared.changes.Changes.{Changes}
use Rattle.reference_model.specs.declared.changes.GuestChange.{GuestChange}
use Rattle.reference_model.specs.declared.changes.GuestChange.TheVariants.{Install, Gain, Empty}
use Rattle.reference_model.specs.declared.changes.MapChange.{MapChange}
use Rattle.reference_model.specs.help.ChangeLaws.{FitsWhere, FitsPart}
use Rattle.reference_model.specs.model.Changes.{edit_of}
use Rattle.reference_model.specs.model.State.{Guest, empty}
use Rattle.table_tree.specs.declared.tree.Tree.{Tree as TableTree}
use Rattle.table_tree.specs.View.{uses, tables_of}

-- the changes of a guest apart from its map can be made, in a layout whose trees have the depth
abbrev pub PartFits : ℕ → Guest → GuestChange → Type 0
PartFits d g c = (l : Layout) × ((l.depth ≡ d) × FitsPart l g c)

-- the changes of a guest can be made, in trees of the depth; an Empty guest's map stays
pub record GuestCanChange (d : ℕ) (h : Changes) (g : Guest) : Type 0 where
  pub map : FitsWhere d h.guest
  pub mapped : is_some h.guest ≡ true → g.phase ≢ empty
  pub part : PartFits d g h.part

-- the guest with its map changed
abbrev pub map_changed : ℕ → Option MapChange → Guest → Guest
map_changed d c g =
    record g {
      tree = edited d g.tree (edit_of c) g.free;
      free =
          all_given (returned d g.tree (edit_of c))
          (drop (need d g.tree (edit_of c)) g.free);
    }

-- a guest can be made of the hand's frames
pub record IsHand (hand : PageRange) : Type 0 where
  pub some : 1 ≤ hand.count
  pub few : hand.count ≤ 512
  pub low : end_of hand ≤ 2 ^ 36

-- if the change is an install, it is from such a hand
abbrev pub CanInstallFrom : GuestChange → Type 0
CanInstallFrom (Install kind generation hand) = IsHand hand
CanInstallFrom other = Unit {0}

-- the frames of a range can be added to a pool next to a tree: neither has them, all are at most
-- 512 then, and the new ones are below the limit of frames
pub record CanGainFrames {A : Type 0} (t : TableTree A) (p : StoredFrames)
    (r : PageRange) : Type 0 where
  pub apart : (f : ℕ) → is_in_range r f ≡ true → uses t f + frame_count f p.frames ≡ 0
  pub few : tables_of t + length p.frames + r.count ≤ 512
  pub low : end_of r ≤ 2 ^ 36

-- if the change adds frames to the pool, it can be made
abbrev pub CanTake : {A : Type 0} → TableTree A → StoredFrames → GuestChange → Type 0
CanTake t p (Gain r) = CanGainFrames t p r
CanTake t p other = Unit {0}

-- the change makes no guest, and ends none
abbrev pub StaysMade : GuestChange → Type 0
StaysMade (Install kind generation hand) = ⊥
StaysMade Empty = ⊥
StaysMade other = Unit {0}
