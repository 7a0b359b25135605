-- Sound: the invariant of all states of a run, in four groups of facts.
use Rattle.std.specs.Prelude.{◌≡◌, ◌≢◌, ℕ, zero, suc, ◌⊎◌, ◌↔◌, IsTrue, Some, Contains}
use Rattle.descriptor.specs.declared.State.{State}
use Rattle.descriptor.specs.declared.State.TheVariants.{Owned, SharedOwned, SharedBorrowed}
use Rattle.reference_model.specs.declared.changes.Stage.{Stage}
use Rattle.reference_model.specs.declared.changes.Ticket.{Ticket}
use Rattle.reference_model.specs.declared.changes.Loaded.{Loaded}
use Rattle.reference_model.specs.declared.changes.Stage.TheVariants.{Booked as booked, Installed as installed, Closing as closing_vm, Dying as dying_vm, Finished as finished}
use Rattle.page_state.specs.declared.entry.Entry.{Entry}
use Rattle.page_state.specs.declared.entry.Entry.TheVariants.{Unmapped, Leaf}
use Rattle.page_state.specs.declared.row.Usage.{Usage}
use Rattle.page_state.specs.declared.row.Usage.TheVariants.{Plain}
use Rattle.page_state.specs.Trees.{Block, Tree}
use Rattle.reference_model.specs.model.State.{Contents, Phase, empty, live, dying, Stand, vacant, reserved, opened, closing}
use Rattle.page_state.specs.Layouts.{Layout, is_memory}
use Rattle.reference_model.specs.model.Owner.{row_of, is_in_hand}

-- exactly one value has the property
abbrev pub IsOne : {X : Type 0} → (X → Type 0) → Type 0
IsOne {X} P = (x : X) × P x × ((y : X) → P y → y ≡ x)

-- the tree of the component with this owner number
abbrev pub tree_at : Contents → ℕ → Tree
tree_at s zero = s.shared.host
tree_at s (suc zero) = s.shared.hyp
tree_at s (suc (suc v)) = (s.guest v).tree

-- an entry is a leaf of the frame in the state
abbrev pub IsLeafOf : ℕ → State → Entry → Type 0
IsLeafOf f state (Leaf frame prot kind other) = (frame.0 ≡ f) × (other ≡ state)
IsLeafOf f state other = ⊥

-- a component maps the frame at the page, in the state
abbrev pub Maps : Contents → ℕ → ℕ → ℕ → State → Type 0
Maps s component page f state = IsLeafOf f state ((tree_at s component).map page)

-- a component has an entry of the frame that only its owner may have
abbrev pub Holds : Contents → ℕ → ℕ → ℕ → Type 0
Holds s component page f = Maps s component page f Owned ⊎ Maps s component page f SharedOwned

-- the host's entry of a frame that it owns: Unmapped, Owned or SharedOwned
abbrev pub IsHostsOwn : ℕ → Entry → Type 0
IsHostsOwn f entry = (entry ≡ Unmapped) ⊎ IsLeafOf f Owned entry ⊎ IsLeafOf f SharedOwned entry

-- the owner of a frame from scratch
abbrev pub owner : Layout → Contents → ℕ → ℕ
owner l s f = (row_of l s f).owner.0

-- the use of a frame from scratch
abbrev pub usage : Layout → Contents → ℕ → Usage
usage l s f = (row_of l s f).usage

-- one owner of each memory frame: the host's page of a frame that it owns is Unmapped, Owned or
-- SharedOwned; any other owner has exactly one Owned or SharedOwned entry of its frame. Nobody but
-- the owner has such an entry of any frame, memory or not
pub record OneOwner (l : Layout) (s : Contents) : Type 0 where
  pub host_owned : (f : ℕ)
      → IsTrue (is_memory l f)
      → owner l s f ≡ 0
      → IsHostsOwn f (s.shared.host.map f)
  pub owned : (f : ℕ)
      → IsTrue (is_memory l f)
      → owner l s f ≢ 0
      → IsOne (λ page. Holds s (owner l s f) page f)
  pub no_other : (f component page : ℕ) → Holds s component page f → component ≡ owner l s f

-- somebody borrows the frame
abbrev pub IsBorrowed : Contents → ℕ → Type 0
IsBorrowed s f = (component : ℕ) × (page : ℕ) × Maps s component page f SharedBorrowed

-- one borrower: at most one entry of a frame is SharedBorrowed, and there is one if and only if the
-- owner's entry is SharedOwned
pub record OneBorrower (l : Layout) (s : Contents) : Type 0 where
  pub one_borrower : (f a page b other : ℕ)
      → Maps s a page f SharedBorrowed
      → Maps s b other f SharedBorrowed
      → (b ≡ a) × (other ≡ page)
  pub lent : (f : ℕ) → IsBorrowed s f ↔ ((page : ℕ) × Maps s (owner l s f) page f SharedOwned)

-- a place that holds frames: a pool's free set, the table of a component at a block, or a hand
pub data Place : Type 0 where
  shared_pool : Place
  vm_pool : ℕ → Place
  table_of : ℕ → Block → Place
  hand : ℕ → Place

-- a frame is held at a place
abbrev pub IsHeld : Contents → ℕ → Place → Type 0
IsHeld s f shared_pool = Contains s.shared.free f
IsHeld s f (vm_pool v) = Contains (s.guest v).free f
IsHeld s f (table_of component b) = (tree_at s component).table b ≡ Some f
IsHeld s f (hand c) = IsTrue (is_in_hand (s.cpu c).hand f)

-- held once: a frame whose use isn't Plain is the hypervisor's, and is held in exactly one place
pub record HeldOnce (l : Layout) (s : Contents) : Type 0 where
  pub held : (f : ℕ) → usage l s f ≢ Plain → (owner l s f ≡ 1) × IsOne (IsHeld s f)

-- a CPU has the vCPU of a slot loaded
abbrev pub HasLoaded : Contents → ℕ → ℕ → ℕ → Type 0
HasLoaded s v i c = (k : Loaded) × ((s.cpu c).loaded ≡ Some k) × (k.vm.slot ≡ v) × (k.vcpu ≡ i)

-- a CPU has a ticket of a slot
abbrev pub HasTicket : Contents → ℕ → ℕ → Type 0
HasTicket s v c = (t : Ticket) × ((s.cpu c).ticket ≡ Some t) × (t.vm.slot ≡ v)

-- the stage of a ticket's slot and the phase of its guest, by the ticket's stage
abbrev pub StageFits : Stage → Stand → Phase → Type 0
StageFits booked stand phase = (stand ≡ reserved) × (phase ≡ empty)
StageFits installed stand phase = (stand ≡ reserved) × (phase ≡ live)
StageFits closing_vm stand phase = (stand ≡ closing) × (phase ≡ live)
StageFits dying_vm stand phase = (stand ≡ closing) × (phase ≡ dying)
StageFits finished stand phase = (stand ≡ closing) × (phase ≡ empty)

-- slots and loads agree: a CPU has a vCPU loaded if and only if the VM part names the CPU for it;
-- the slot is then Open, of that generation
pub record LoadsAgree (s : Contents) : Type 0 where
  pub loaded : (c : ℕ) (k : Loaded)
      → (s.cpu c).loaded ≡ Some k
      → ((s.vms.slot k.vm.slot).loaded k.vcpu ≡ Some c)
      × ((s.vms.slot k.vm.slot).generation ≡ k.vm.generation)
  pub loads : (v i c : ℕ)
      → (s.vms.slot v).loaded i ≡ Some c
      → ((s.vms.slot v).stand ≡ opened) × HasLoaded s v i c

-- a guest that isn't Empty has its slot's generation and kind
pub record IsGuestOf (s : Contents) (v : ℕ) : Type 0 where
  pub generation : (s.guest v).generation ≡ (s.vms.slot v).generation
  pub kind : (s.guest v).kind ≡ (s.vms.slot v).kind

-- slots and guests agree: an Open slot's guest is Live, an Empty slot's Empty
pub record GuestsAgree (s : Contents) : Type 0 where
  pub open_live : (v : ℕ) → (s.vms.slot v).stand ≡ opened → (s.guest v).phase ≡ live
  pub vacant_empty : (v : ℕ) → (s.vms.slot v).stand ≡ vacant → (s.guest v).phase ≡ empty
  pub same_vm : (v : ℕ) → (s.guest v).phase ≢ empty → IsGuestOf s v

-- a ticket's slot is in the stage of the ticket, with its generation and kind
pub record IsTicketOf (s : Contents) (t : Ticket) : Type 0 where
  pub fits : StageFits t.stage (s.vms.slot t.vm.slot).stand (s.guest t.vm.slot).phase
  pub generation : t.vm.generation ≡ (s.vms.slot t.vm.slot).generation
  pub kind : t.kind ≡ (s.vms.slot t.vm.slot).kind

-- slots and tickets agree: each Reserved or Closing slot is named by exactly one ticket
pub record TicketsAgree (s : Contents) : Type 0 where
  pub ticket : (c : ℕ) (t : Ticket) → (s.cpu c).ticket ≡ Some t → IsTicketOf s t
  pub reserved_once : (v : ℕ) → (s.vms.slot v).stand ≡ reserved → IsOne (HasTicket s v)
  pub closing_once : (v : ℕ) → (s.vms.slot v).stand ≡ closing → IsOne (HasTicket s v)

-- slots, loads and tickets agree
pub record SlotsAgree (s : Contents) : Type 0 where
  pub loads : LoadsAgree s
  pub guests : GuestsAgree s
  pub tickets : TicketsAgree s

-- sound
pub record Sound (l : Layout) (s : Contents) : Type 0 where
  pub one_owner : OneOwner l s
  pub one_borrower : OneBorrower l s
  pub held_once : HeldOnce l s
  pub slots_agree : SlotsAgree s
