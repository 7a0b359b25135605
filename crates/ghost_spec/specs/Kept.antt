-- The invariant of a state on lists: its runs are the coarsest, and its numbers small, so that sums
-- are numbers of 64 bits.
use Rattle.std.specs.Prelude.{◌≡◌, ℕ, ◌+◌, ◌^◌, ◌<◌, ◌≤◌, [], ◌∷◌, Option, Some, None, IfSome}
use Rattle.call_table.specs.declared.step.Step.{Step}
use Rattle.call_table.specs.declared.step.Step.TheVariants.{VmRelease}
use Rattle.page_state.specs.declared.entry.PageRange.{PageRange}
use Rattle.page_state.specs.Regions.{end_of}
use Rattle.page_state.specs.Rows.{HasPageBelow}
use Rattle.page_state.specs.Trees.{Block, Pool}
use Rattle.reference_model.specs.declared.changes.Changes.{Changes}
use Rattle.reference_model.specs.declared.changes.GuestChange.{GuestChange}
use Rattle.reference_model.specs.declared.changes.GuestChange.TheVariants.{Install, Gain}
use Rattle.reference_model.specs.declared.changes.Loaded.{Loaded}
use Rattle.reference_model.specs.declared.changes.MapChange.{MapChange}
use Rattle.reference_model.specs.declared.changes.SlotChange.{SlotChange}
use Rattle.reference_model.specs.declared.changes.SlotChange.TheVariants.{Keep as KeepSlots, Reserve, Open, Close, Release, Load, Unload}
use Rattle.reference_model.specs.declared.changes.Ticket.{Ticket}
use Rattle.reference_model.specs.model.Changes.{updated, touched}
use Rattle.run_list.specs.Runs.{AreInReach}
use Rattle.ghost_spec.specs.declared.cpu.GhostCpu.{GhostCpu}
use Rattle.ghost_spec.specs.declared.parts.GhostGuest.{GhostGuest}
use Rattle.ghost_spec.specs.declared.shared.Shared.{Shared as SharedOfLists}
use Rattle.ghost_trees.specs.KeptTrees.{IsKeptTree}
use Rattle.ghost_trees.specs.Small.{HasLowFrames}
use Rattle.ghost_trees.specs.Trees.{table_of}

-- both trees are kept, and the rows' numbers are small
pub record IsKeptShared (s : SharedOfLists) : Type 0 where
  pub host : IsKeptTree s.host
  pub hyp : IsKeptTree s.hyp
  pub rows : AreInReach HasPageBelow s.rows.runs

-- a range, if there is one, has small numbers
abbrev pub IsSmallRange : Option PageRange → Type 0
IsSmallRange None = Unit {0}
IsSmallRange (Some range) = end_of range ≤ 2 ^ 62

-- the frames of a pool are small
abbrev pub AreLowFrames : Pool → Type 0
AreLowFrames [] = Unit {0}
AreLowFrames (f ∷ fs) = (f ≤ 2 ^ 62) × AreLowFrames fs

-- the frames of tables are small
abbrev pub HasLowTables : (Block → Option ℕ) → Type 0
HasLowTables table = (b : Block) (f : ℕ) → table b ≡ Some f → f ≤ 2 ^ 62

-- a guest's tree is kept, and its frames are small
pub record IsKeptGuest (g : GhostGuest) : Type 0 where
  pub tree : IsKeptTree g.tree
  pub tables : HasLowTables (table_of g.tree.tables.items)
  pub free : AreLowFrames g.free.items

-- a slot, if there is one, is one of the 64
abbrev pub IsLowSlot : Option ℕ → Type 0
IsLowSlot None = Unit {0}
IsLowSlot (Some v) = v < 64

-- each load is of one of the 64 slots
abbrev pub HasLowLoad : Option Loaded → Type 0
HasLowLoad None = Unit {0}
HasLowLoad (Some x) = x.vm.slot < 64

-- a ticket is of one of the 64 slots
abbrev pub HasLowTicket : Option Ticket → Type 0
HasLowTicket None = Unit {0}
HasLowTicket (Some t) = t.vm.slot < 64

-- a CPU's hand has small numbers, and its loaded vCPU and its ticket are of slots below 64
pub record IsKeptCpu (k : GhostCpu) : Type 0 where
  pub hand : IsSmallRange k.hand
  pub loaded : HasLowLoad k.loaded
  pub ticket : HasLowTicket k.ticket

-- if the step releases the VM of a CPU's ticket, the generation after that VM's is a number of 64
-- bits
abbrev pub HasNextGeneration : Option Ticket → Step → Type 0
HasNextGeneration ticket step = step ≡ VmRelease → IfSome ticket (λ t. t.vm.generation + 1 < 2 ^ 64)

-- a change of a map to small numbers
abbrev pub IsSmallChange : Option MapChange → Type 0
IsSmallChange None = Unit {0}
IsSmallChange (Some c) = (end_of c.range ≤ 2 ^ 63) × HasLowFrames c.entry c.range.count

-- a change of a guest to small numbers
abbrev pub IsSmallPart : GuestChange → Type 0
IsSmallPart (Install kind generation hand) = end_of hand ≤ 2 ^ 62
IsSmallPart (Gain range) = end_of range ≤ 2 ^ 62
IsSmallPart other = Unit {0}

-- the changed slot is one of the first n, and a generation that rises still fits 64 bits
abbrev pub FitsSlots : ℕ → SlotChange → Type 0
FitsSlots n KeepSlots = Unit {0}
FitsSlots n (Reserve v kind vcpus) = v < n
FitsSlots n (Open v) = v < n
FitsSlots n (Close v) = v < n
FitsSlots n (Release vm) = (vm.slot < n) × (vm.generation + 1 < 2 ^ 64)
FitsSlots n (Load v i c) = v < n
FitsSlots n (Unload v i) = v < n

-- changes to small numbers
pub record AreSmallChanges (h : Changes) : Type 0 where
  pub host : IsSmallChange h.host
  pub hyp : IsSmallChange h.hyp
  pub guest : IsSmallChange h.guest
  pub part : IsSmallPart h.part
  pub slots : FitsSlots 64 h.slot
  pub touched : (r : PageRange) → touched h ≡ Some r → end_of r ≤ 2 ^ 63
  pub hand : (hand : Option PageRange) → IsSmallRange hand → IsSmallRange (updated h.cpu.hand hand)
  pub loaded : (x : Option Loaded) → HasLowLoad x → HasLowLoad (updated h.cpu.loaded x)
  pub ticket : (x : Option Ticket) → HasLowTicket x → HasLowTicket (updated h.cpu.ticket x)
