-- Parts some of whose trees were poked, and what a poke does to them.
use Rattle.std.specs.Prelude.{◌≡◌, ℕ, List, [], Option, Some, None, slice_get}
use Rattle.hyp_pool.specs.Pools.{StoredFrames}
use Rattle.maplets.specs.View.{KeptMaplets}
use Rattle.page_state.specs.declared.layout.Geometry.{Geometry}
use Rattle.page_state.specs.declared.layout.Layout.{Layout}
use Rattle.page_state.specs.declared.row.Row.{Row}
use Rattle.page_state.specs.Trees.{Block}
use Rattle.run_list.specs.declared.run.Run.{Run}
use Rattle.table_tree.specs.Raw.{IsPoked, IsPokedMap}
use Rattle.table_tree.specs.Said.{block_of}
use Rattle.part_types.specs.declared.parts.CpuState.{CpuState}
use Rattle.part_types.specs.declared.parts.GuestPart.{GuestPart}
use Rattle.part_types.specs.declared.parts.SharedPart.{SharedPart}
use Rattle.part_types.specs.declared.parts.VmPart.{VmPart}
use Rattle.part_types.specs.Logs.{StoredCalls}
use Rattle.hypercalls.specs.declared.parts.Parts.{Parts}
use Rattle.hypercalls.specs.Stands.{at_place}
use Rattle.ghost_oracle.specs.declared.raw.RawGuest.{RawGuest}
use Rattle.ghost_oracle.specs.declared.raw.RawParts.{RawParts}
use Rattle.ghost_oracle.specs.declared.raw.RawShared.{RawShared}
use Rattle.ghost_oracle.specs.declared.raw.Which.{Which}
use Rattle.ghost_oracle.specs.declared.raw.Which.TheVariants.{Host, Hyp, Guest}
use Rattle.ghost_oracle.specs.Beside.{AreSlotsOf, IsSlotOf, SlotBeside, slot_beside}
use Rattle.ghost_oracle.specs.Seen.{SeenTree, nothing_seen, tree_seen, raw_seen, slot_seen}

-- one tree was poked
pub record IsPokedSeen (b : Block) (before after : SeenTree) (path : List ℕ)
    (word : ℕ) : Type 0 where
  pub words : IsPoked before.words after.words path word
  pub map : IsPokedMap b before.words before.tree.map after.tree.map path word

-- one of all trees was poked, and each other stays
pub record IsPokedTree (b : Block) (before after : Which → SeenTree) (which : Which)
    (path : List ℕ) (word : ℕ) : Type 0 where
  pub poked : IsPokedSeen b (before which) (after which) path word
  pub others : (other : Which) → (other ≡ which → ⊥) → after other ≡ before other

-- what the Shared part has beside its trees
pub record SharedBeside : Type 0 where
  pub host : KeptMaplets
  pub hyp : KeptMaplets
  pub pool : StoredFrames
  pub rows : List (Run Row)
  pub log : StoredCalls

-- all that parts have beside their trees
pub record Beside : Type 0 where
  pub layout : Layout
  pub vms : VmPart
  pub shared : SharedBeside
  pub guest : ℕ → Option SlotBeside
  pub cpus : List CpuState

module _ {A : Type 0} where
  -- the guest of a slot that was poked, if it was
  abbrev pub poked_at : List (Option (RawGuest A)) → ℕ → Option (RawGuest A)
  poked_at poked v = at_place None (λ r. r) (slice_get poked v)

  -- the trees of the slots; past the last slot there is none
  abbrev pub guest_seen : List (GuestPart A) → List (Option (RawGuest A)) → ℕ → SeenTree
  guest_seen guests poked v =
      at_place nothing_seen (λ g. slot_seen g (poked_at poked v)) (slice_get guests v)

  abbrev pub guest_beside : List (GuestPart A) → List (Option (RawGuest A)) → ℕ → Option SlotBeside
  guest_beside guests poked v =
      at_place None (λ g. Some (slot_beside g (poked_at poked v))) (slice_get guests v)

  -- all trees of parts of which some were poked
  abbrev pub raw_trees : RawParts A → Which → SeenTree
  raw_trees p Host = raw_seen p.shared.host.tree
  raw_trees p Hyp = raw_seen p.shared.hyp.tree
  raw_trees p (Guest v) = guest_seen p.guests.items p.poked.items v

  abbrev pub shared_beside : RawShared A → SharedBeside
  shared_beside s =
      record {
        host = s.host.maplets;
        hyp = s.hyp.maplets;
        pool = s.pool;
        rows = s.owners;
        log = s.log;
      }

  -- all that the parts hold other than trees
  abbrev pub raw_beside_of : RawParts A → Beside
  raw_beside_of p =
      record {
        layout = p.layout;
        vms = p.vms;
        shared = shared_beside p.shared;
        guest = guest_beside p.guests.items p.poked.items;
        cpus = p.cpus.items;
      }

  -- the trees of parts
  abbrev pub parts_trees : Parts A → Which → SeenTree
  parts_trees p Host = tree_seen p.shared.host.tree
  parts_trees p Hyp = tree_seen p.shared.hyp.tree
  parts_trees p (Guest v) = guest_seen p.guests.items [] v

  -- what a Shared part has beside its trees
  abbrev pub part_beside : SharedPart A → SharedBeside
  part_beside s =
      record {
        host = s.host.maplets;
        hyp = s.hyp.maplets;
        pool = s.pool;
        rows = s.owners;
        log = s.log;
      }

  -- the parts `p` have beside their trees what `x` says
  pub record IsBeside (p : Parts A) (x : Beside) : Type 0 where
    pub layout : x.layout ≡ p.layout
    pub vms : x.vms ≡ p.vms
    pub shared : x.shared ≡ part_beside p.shared
    pub guest : (v : ℕ) → x.guest v ≡ guest_beside p.guests.items [] v
    pub cpus : x.cpus ≡ p.cpus.items

  -- a tree of a slot was poked, whatever geometry it is of
  abbrev pub IsSlotPoked : GuestPart A → Option (RawGuest A) → GuestPart A → Option (RawGuest A)
      → List ℕ → ℕ → Type 0
  IsSlotPoked part held new_part new_held path word =
      (g : Geometry)
      → IsSlotOf g part held
      → IsPokedSeen (block_of g path) (slot_seen part held) (slot_seen new_part new_held) path word

  -- so it was of the slot of a number
  abbrev pub IsPlacePoked : ℕ → List (GuestPart A) → List (Option (RawGuest A)) → List (GuestPart A)
      → List (Option (RawGuest A)) → List ℕ → ℕ → Type 0
  IsPlacePoked slot guests poked new_guests new_poked path word =
      (g : Geometry)
      → AreSlotsOf g guests poked
      → IsPokedSeen (block_of g path) (guest_seen guests poked slot)
      (guest_seen new_guests new_poked slot) path word

  -- one of all trees of parts was poked
  abbrev pub IsRawPoked : RawParts A → RawParts A → Which → List ℕ → ℕ → Type 0
  IsRawPoked p q which path word =
      IsPokedTree (block_of p.layout.geometry path) (raw_trees p) (raw_trees q) which path word

  -- so it was of parts of which none was poked before
  abbrev pub ArePartsPoked : Parts A → RawParts A → Which → List ℕ → ℕ → Type 0
  ArePartsPoked p q which path word =
      IsPokedTree (block_of p.layout.geometry path) (parts_trees p) (raw_trees q) which path word
