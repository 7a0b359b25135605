-- What a state on lists says of parts some of whose trees were poked.
use Rattle.std.specs.Prelude.{◌≡◌, ℕ, ◌<◌, List, Option, Some, None, get_or, length, map}
use Rattle.page_state.specs.declared.entry.Run.{Run}
use Rattle.page_state.specs.LayoutView.{layout_of}
use Rattle.page_state.specs.Rows.{advance_row}
use Rattle.page_state.specs.Trees.{Pool}
use Rattle.call_table.specs.declared.step.VmKind.{VmKind}
use Rattle.reference_model.specs.model.State.{Phase, no_slot}
use Rattle.run_list.specs.Runs.{run_map}
use Rattle.guest_component.specs.Bodies.{phase_of}
use Rattle.guest_component.specs.View.{guest_of, runs_of}
use Rattle.part_types.specs.declared.parts.GuestPart.{GuestPart}
use Rattle.part_types.specs.View.{vm_slots, cpu_of}
use Rattle.ghost_spec.specs.declared.parts.GhostGuest.{GhostGuest}
use Rattle.ghost_spec.specs.declared.lists.GhostLists.{GhostLists}
use Rattle.ghost_spec.specs.declared.lists.GhostRooms.{GhostRooms}
use Rattle.ghost_trees.specs.KeptTrees.{IsKeptTree}
use Rattle.ghost_spec.specs.States.{phase_in, slot_in}
use Rattle.ghost_trees.specs.Trees.{tree_in_lists}
use Rattle.ghost_spec.specs.Views.{cpu_in}
use Rattle.ghost_oracle.specs.declared.raw.RawGuest.{RawGuest}
use Rattle.ghost_oracle.specs.declared.raw.RawParts.{RawParts}
use Rattle.ghost_oracle.specs.declared.trees.Source.{Source}
use Rattle.ghost_oracle.specs.declared.trees.Source.TheVariants.{Maplets, Words}
use Rattle.ghost_oracle.specs.Seen.{raw_seen, slot_seen}

-- the free frames of a slot's guest: of the poked guest, if there is one
abbrev pub slot_free : {A : Type 0} → GuestPart A → Option (RawGuest A) → Pool
slot_free g None = (guest_of g.guest).free
slot_free g (Some r) = r.pool.frames

-- the runs of the maplets beside its tree
abbrev pub slot_runs : {A : Type 0} → GuestPart A → Option (RawGuest A) → List Run
slot_runs g None = runs_of g.guest.body
slot_runs g (Some r) = r.map.maplets.runs

-- its phase, generation and kind
abbrev pub slot_phase : {A : Type 0} → GuestPart A → Option (RawGuest A) → Phase
slot_phase g None = (guest_of g.guest).phase
slot_phase g (Some r) = phase_of r.phase

abbrev pub slot_generation : {A : Type 0} → GuestPart A → Option (RawGuest A) → ℕ
slot_generation g None = (guest_of g.guest).generation
slot_generation g (Some r) = r.generation

abbrev pub slot_kind : {A : Type 0} → GuestPart A → Option (RawGuest A) → VmKind
slot_kind g None = (guest_of g.guest).kind
slot_kind g (Some r) = r.kind

-- a guest on lists is the slot's guest, with its runs from the given source
pub record IsSlotFound {A : Type 0} (source : Source) (part : GuestPart A)
    (held : Option (RawGuest A)) (g : GhostGuest) : Type 0 where
  pub kept : IsKeptTree g.tree
  pub words : source ≡ Words → tree_in_lists g.tree ≡ (slot_seen part held).tree
  pub runs : source ≡ Maplets → g.tree.runs.items ≡ slot_runs part held
  pub free : g.free.items ≡ slot_free part held
  pub phase : phase_in g.phase ≡ slot_phase part held
  pub generation : g.generation ≡ slot_generation part held
  pub kind : g.kind ≡ slot_kind part held

-- each guest of a list is that of its slot
abbrev pub AreSlotsFound : {A : Type 0}
    → Source
    → List (GuestPart A)
    → List (Option (RawGuest A))
    → List GhostGuest
    → Type 0
AreSlotsFound {A} source parts helds gs =
    (v : ℕ) (part : GuestPart A) (held : Option (RawGuest A)) (g : GhostGuest)
    → v < 64
    → IsSlotFound source (get_or parts v part) (get_or helds v held) (get_or gs v g)

-- the rooms of all logs are those of the parts
pub record AreRoomsFound {A : Type 0} (p : RawParts A) (r : GhostRooms) : Type 0 where
  pub vms : r.vms ≡ p.vms.log.room
  pub shared : r.shared ≡ p.shared.log.room
  pub guests : r.guests.items ≡ map (λ g. g.log.room) p.guests.items
  pub cpus : r.cpus.items ≡ map (λ k. k.log.room) p.cpus.items

-- a state on lists is the state of the parts, except for its rows; its runs are from the given
-- source
pub record IsRawFound {A : Type 0} (source : Source) (p : RawParts A)
    (g : GhostLists) : Type 0 where
  pub layout : layout_of g.layout ≡ layout_of p.layout
  pub host_kept : IsKeptTree g.shared.host
  pub hyp_kept : IsKeptTree g.shared.hyp
  pub host_words : source ≡ Words → tree_in_lists g.shared.host ≡ (raw_seen p.shared.host.tree).tree
  pub hyp_words : source ≡ Words → tree_in_lists g.shared.hyp ≡ (raw_seen p.shared.hyp.tree).tree
  pub host_runs : source ≡ Maplets → g.shared.host.runs.items ≡ p.shared.host.maplets.runs
  pub hyp_runs : source ≡ Maplets → g.shared.hyp.runs.items ≡ p.shared.hyp.maplets.runs
  pub free : g.shared.free.items ≡ p.shared.pool.frames
  pub guests : AreSlotsFound source p.guests.items p.poked.items g.guests.items
  pub count : length g.guests.items ≡ 64
  pub slots : (slot : ℕ)
      → get_or (map slot_in g.vms.items) slot (no_slot 1) ≡ (vm_slots p.vms).slot slot
  pub cpus : map cpu_in g.cpus.items ≡ map cpu_of p.cpus.items
  pub rooms : AreRoomsFound p g.rooms

-- its rows are those that the owner table keeps
abbrev pub HasSameRawRows : {A : Type 0} → RawParts A → GhostLists → Type 0
HasSameRawRows p g = run_map advance_row g.shared.rows.runs ≡ run_map advance_row p.shared.owners
