-- The first difference of two Shared parts, maps and rows apart, and of two guests, maps apart. The
-- order in a Shared part: the free frames, the host's tables, the hypervisor's. In a guest: its
-- phase, generation and kind, its tables, its free frames. Tables are in the order of their blocks'
-- depths, and those of one depth in the order of the blocks.
use Rattle.std.specs.Prelude.{◌≡◌, ℕ, ◌<◌, [], Option, Some, None, get_or, map}
use Rattle.page_state.specs.Trees.{Block, Pool, no_tree}
use Rattle.reference_model.specs.model.State.{Guest, Shared, no_guest}
use Rattle.ghost_spec.specs.States.{phase_in}
use Rattle.ghost_judge.specs.declared.disagreement.GuestHead.{GuestHead}
use Rattle.ghost_judge.specs.declared.disagreement.PartDifference.{PartDifference}
use Rattle.ghost_judge.specs.declared.disagreement.PartDifference.TheVariants.{Free, Table, Head}
use Rattle.ghost_judge.specs.declared.disagreement.TreeOf.{TreeOf}
use Rattle.ghost_judge.specs.declared.disagreement.TreeOf.TheVariants.{Host, Hyp, Guest as GuestOf}
use Rattle.ghost_judge.specs.Apart.{IsFirstApart}
use Rattle.ghost_judge.specs.Audits.{DiffersFirstAt}

-- a guest with nothing mapped, and else the same: its phase, generation, kind, tables and free
-- frames
abbrev pub without_map : Guest → Guest
without_map g = record g { tree = record g.tree { map = no_tree.map } }

-- a guest with no tree and no pool, and else the same: its phase, generation and kind
abbrev pub head_of : Guest → Guest
head_of g = record g { tree = no_tree; free = [] }

-- the guest without tree and pool that has the phase, generation and kind
abbrev pub guest_with : GuestHead → Guest
guest_with h =
    record no_guest { phase = phase_in h.phase; generation = h.generation; kind = h.kind }

-- the shared pool's free frames and the tables of the host and of the hypervisor are equal
pub record IsSamePool (post spec : Shared) : Type 0 where
  pub free : post.free ≡ spec.free
  pub host : post.host.table ≡ spec.host.table
  pub hyp : post.hyp.table ≡ spec.hyp.table

-- the frame at a place of a pool's list; None past its end
abbrev pub frame_at : Pool → ℕ → Option ℕ
frame_at pool i = get_or (map Some pool) i None

-- the frames at the first place at which two pools differ
pub record IsFirstFrame (post spec : Pool) (x y : Option ℕ) : Type 0 where
  pub place : ℕ
  pub differ : DiffersFirstAt (frame_at post) (frame_at spec) place x y

-- the tables at the blocks of a depth
abbrev pub tables_at : (Block → Option ℕ) → ℕ → ℕ → Option ℕ
tables_at table depth index = table (depth, index)

-- the first block at which the tables of two trees differ
pub record IsFirstBlock (post spec : Block → Option ℕ) (b : Block) : Type 0 where
  pub lower : (d : ℕ) → d < b.0 → tables_at post d ≡ tables_at spec d
  pub first : IsFirstApart (tables_at post b.0) (tables_at spec b.0) b.1

-- the same, with the frames of both tables there
pub record IsFirstTable (post spec : Block → Option ℕ) (b : Block) (x y : Option ℕ) : Type 0 where
  pub block : IsFirstBlock post spec b
  pub post_is : x ≡ post b
  pub spec_is : y ≡ spec b

-- the first difference is one of this tree's tables
abbrev pub IsFirstSharedTable : TreeOf → Shared → Shared → Block → Option ℕ → Option ℕ → Type 0
IsFirstSharedTable Host post spec b x y =
    (post.free ≡ spec.free) × IsFirstTable post.host.table spec.host.table b x y
IsFirstSharedTable Hyp post spec b x y =
    (post.free ≡ spec.free)
    × (post.host.table ≡ spec.host.table)
    × IsFirstTable post.hyp.table spec.hyp.table b x y
IsFirstSharedTable (GuestOf slot) post spec b x y = ⊥

-- the first difference of two Shared parts
abbrev pub IsFirstOfShared : Shared → Shared → PartDifference → Type 0
IsFirstOfShared post spec (Free x y) = IsFirstFrame post.free spec.free x y
IsFirstOfShared post spec (Table tree b x y) = IsFirstSharedTable tree post spec b x y
IsFirstOfShared post spec (Head x y) = ⊥

-- the phases, generations and kinds of two guests, which differ
pub record IsOtherHead (post spec : Guest) (x y : GuestHead) : Type 0 where
  pub differ : head_of post ≡ head_of spec → ⊥
  pub post_is : guest_with x ≡ head_of post
  pub spec_is : guest_with y ≡ head_of spec

-- the first difference of two guests of a slot
abbrev pub IsFirstOfGuest : ℕ → Guest → Guest → PartDifference → Type 0
IsFirstOfGuest slot post spec (Head x y) = IsOtherHead post spec x y
IsFirstOfGuest slot post spec (Table tree b x y) =
    (tree ≡ GuestOf slot)
    × (head_of post ≡ head_of spec)
    × IsFirstTable post.tree.table spec.tree.table b x y
IsFirstOfGuest slot post spec (Free x y) =
    (head_of post ≡ head_of spec)
    × (post.tree.table ≡ spec.tree.table)
    × IsFirstFrame post.free spec.free x y
