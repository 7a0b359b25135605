-- The invariant of runs: each memory frame is in one condition, and its entries, holders and row in
-- a state follow from the condition.
use Rattle.std.specs.Prelude.{◌≡◌, ◌≢◌, ℕ, ◌+◌, ◌≤◌, ◌<◌, ◌⊎◌, Bool, true, false, ◌==◌, Some, None, if◌then◌else◌}
use Rattle.descriptor.specs.declared.Prot.{Prot}
use Rattle.descriptor.specs.declared.Prot.TheVariants.{RW, RWX}
use Rattle.descriptor.specs.declared.State.{State}
use Rattle.descriptor.specs.declared.State.TheVariants.{Owned, SharedOwned, SharedBorrowed}
use Rattle.page_state.specs.declared.entry.Entry.{Entry}
use Rattle.page_state.specs.declared.entry.Entry.TheVariants.{Unmapped}
use Rattle.page_state.specs.declared.entry.PageRange.{PageRange}
use Rattle.page_state.specs.declared.layout.Region.{Region}
use Rattle.page_state.specs.declared.row.Row.{Row}
use Rattle.page_state.specs.declared.row.Usage.{Usage}
use Rattle.page_state.specs.declared.row.Usage.TheVariants.{Plain, SharedPool, VmPool, InHand}
use Rattle.page_state.specs.Counts.{frame_count}
use Rattle.page_state.specs.EntryTests.{leaf, device_leaf, annotation}
use Rattle.page_state.specs.Geometries.{pages_below}
use Rattle.page_state.specs.Layouts.{Layout, is_memory, hyp_page}
use Rattle.reference_model.specs.model.Owner.{count_blocks, is_frame, is_in_hand, lent_at}
use Rattle.page_state.specs.Regions.{region_of, is_in_range}
use Rattle.reference_model.specs.claims.Sound.{SlotsAgree}
use Rattle.page_state.specs.Trees.{Tree}
use Rattle.coarse_trees.specs.Coarsest.{IsCoarsest}
use Rattle.reference_model.specs.model.State.{Shared, Guest, empty, vacant, Contents, no_guest, plain_row}

-- the condition of a page: it is no memory frame, or the frame is the host's, shared by the host
-- with the hypervisor, the hypervisor's in some use, shared by the host with a guest at a page, a
-- guest's at a page, or lent back by a guest from a page
pub data Condition : Type 0 where
  outside : Condition
  hosts : Condition
  with_hyp : Condition
  hyps : Usage → Condition
  with_guest : (v page : ℕ) → Condition
  guests : (v page : ℕ) → Condition
  lent_back : (v page : ℕ) → Condition

-- the entries that the host's map may have at the page: only the page's own frame, in the state of
-- the condition
abbrev pub HostFits : ℕ → Condition → Entry → Type 0
HostFits p outside e = (e ≡ Unmapped) ⊎ (e ≡ device_leaf p)
HostFits p hosts e = (e ≡ Unmapped) ⊎ (e ≡ leaf RWX p Owned)
HostFits p with_hyp e = e ≡ leaf RWX p SharedOwned
HostFits p (hyps usage) e = e ≡ annotation 1
HostFits p (with_guest v g) e = e ≡ leaf RWX p SharedOwned
HostFits p (guests v g) e = e ≡ annotation (2 + v)
HostFits p (lent_back v g) e = e ≡ leaf RWX p SharedBorrowed

-- the entry of the hypervisor's map at its page of the frame
abbrev pub hyp_entry_by : ℕ → Condition → Entry
hyp_entry_by f with_hyp = leaf RW f SharedBorrowed
hyp_entry_by f (hyps usage) = leaf RW f Owned
hyp_entry_by f other = Unmapped

-- the condition of a frame that a guest maps at a page in a state
abbrev pub guest_condition : State → ℕ → ℕ → Condition
guest_condition Owned v g = guests v g
guest_condition SharedOwned v g = lent_back v g
guest_condition SharedBorrowed v g = with_guest v g

-- a guest's entry of a page is Unmapped, or the leaf of a frame whose condition names this guest
-- and page
pub record IsGuestLeaf (condition : ℕ → Condition) (v g : ℕ) (e : Entry) : Type 0 where
  pub frame : ℕ
  pub prot : Prot
  pub state : State
  pub leaf_is : e ≡ leaf prot frame state
  pub named : condition frame ≡ guest_condition state v g

-- the entries that a guest's map may have at a page
abbrev pub GuestFits : (ℕ → Condition) → ℕ → ℕ → Entry → Type 0
GuestFits condition v g e = (e ≡ Unmapped) ⊎ IsGuestLeaf condition v g e

-- a leaf of the frame in the state, with some rights
abbrev pub IsMemoryLeaf : ℕ → State → Entry → Type 0
IsMemoryLeaf f state e = (prot : Prot) × (e ≡ leaf prot f state)

-- all maps have the entries of the conditions, and map nothing else
pub record MapsFit (s : Contents) (condition : ℕ → Condition) : Type 0 where
  pub host : (p : ℕ) → HostFits p (condition p) (s.shared.host.map p)
  pub hyp : (f : ℕ) → s.shared.hyp.map (hyp_page f) ≡ hyp_entry_by f (condition f)
  pub hyp_below : (p : ℕ) → p < hyp_page 0 → s.shared.hyp.map p ≡ Unmapped
  pub guest : (v g : ℕ) → GuestFits condition v g ((s.guest v).tree.map g)
  pub guest_has : (v g f : ℕ) (state : State)
      → condition f ≡ guest_condition state v g
      → IsMemoryLeaf f state ((s.guest v).tree.map g)

-- a condition is a memory frame's
abbrev pub is_inside : Condition → Bool
is_inside outside = false
is_inside other = true

-- the numbers in a condition are in range: a guest, a page of its tree, a CPU
abbrev pub IsGood : Layout → Condition → Type 0
IsGood l (hyps (VmPool v)) = v < 64
IsGood l (hyps (InHand c)) = c < l.config.cpus
IsGood l (with_guest v g) = (v < 64) × (g < pages_below l.depth)
IsGood l (guests v g) = (v < 64) × (g < pages_below l.depth)
IsGood l (lent_back v g) = (v < 64) × (g < pages_below l.depth)
IsGood l other = Unit {0}

-- the frame is held for the Shared part
abbrev pub in_shared : Condition → Bool
in_shared (hyps SharedPool) = true
in_shared other = false

-- the frame is held for a guest
abbrev pub in_vm : ℕ → Condition → Bool
in_vm v (hyps (VmPool u)) = u == v
in_vm v other = false

-- the frame is in a CPU's hand
abbrev pub in_hand : ℕ → Condition → Bool
in_hand c (hyps (InHand d)) = d == c
in_hand c other = false

-- 1 if a test holds, else 0
abbrev pub one : Bool → ℕ
one b = if b then 1 else 0

-- how many tables of the tree have the frame
unfoldable pub table_uses : ℕ → Tree → ℕ → ℕ
table_uses depth t f = count_blocks (depth + 1) (depth + 1) (λ b. is_frame f (t.table b))

-- how often the Shared part holds the frame: in its pool and as a table
abbrev pub shared_uses : ℕ → Shared → ℕ → ℕ
shared_uses depth x f =
    frame_count f x.free + (table_uses depth x.host f + table_uses depth x.hyp f)

-- how often a guest holds the frame
abbrev pub guest_uses : ℕ → Guest → ℕ → ℕ
guest_uses depth g f = frame_count f g.free + table_uses depth g.tree f

-- each frame is held only in the place of its condition, and once there
pub record HeldFit (l : Layout) (s : Contents) (condition : ℕ → Condition) : Type 0 where
  pub shared : (f : ℕ) → shared_uses l.depth s.shared f ≡ one (in_shared (condition f))
  pub vm : (v f : ℕ) → guest_uses l.depth (s.guest v) f ≡ one (in_vm v (condition f))
  pub hand : (c f : ℕ) → is_in_hand (s.cpu c).hand f ≡ in_hand c (condition f)

-- the row of a frame in a condition
abbrev pub row_in : ℕ → Condition → Row
row_in f with_hyp = record plain_row { lent = Some (lent_at 1 (hyp_page f)) }
row_in f (hyps usage) = record { owner = record { 0 = 1 }; lent = None; usage = usage }
row_in f (with_guest v g) = record plain_row { lent = Some (lent_at (2 + v) g) }
row_in f (guests v g) = record { owner = record { 0 = 2 + v }; lent = None; usage = Plain }
row_in f (lent_back v g) =
    record { owner = record { 0 = 2 + v }; lent = Some (lent_at 0 f); usage = Plain }
row_in f other = plain_row

-- each tree is the coarsest tree of its map
pub record AreCoarsest (l : Layout) (s : Contents) : Type 0 where
  pub host : IsCoarsest l.depth s.shared.host
  pub hyp : IsCoarsest l.depth s.shared.hyp
  pub guest : (v : ℕ) → IsCoarsest l.depth (s.guest v).tree

-- an Empty guest has nothing, and any other a root
pub record GuestsFit (l : Layout) (s : Contents) : Type 0 where
  pub blank : (v : ℕ) → (s.guest v).phase ≡ empty → s.guest v ≡ no_guest
  pub rooted : (v : ℕ)
      → (s.guest v).phase ≢ empty
      → (root : ℕ) × ((s.guest v).tree.table (l.depth + 1, 0) ≡ Some root)

-- slots, loads and tickets agree; there are 64 slots, each with at most 8 vCPUs, and a hand is
-- empty or has a frame
pub record SlotsFit (s : Contents) : Type 0 where
  pub agree : SlotsAgree s
  pub few_slots : (v : ℕ) → 64 ≤ v → (s.vms.slot v).stand ≡ vacant
  pub few_vcpus : (v i c : ℕ) → (s.vms.slot v).loaded i ≡ Some c → i < 8
  pub some_hand : (c : ℕ) (r : PageRange) → (s.cpu c).hand ≡ Some r → 1 ≤ r.count

-- the conditions are those of the layout's frames
pub record IsOfLayout (l : Layout) (condition : ℕ → Condition) : Type 0 where
  pub inside : (f : ℕ) → is_inside (condition f) ≡ is_memory l f
  pub good : (f : ℕ) → IsGood l (condition f)

-- each memory frame's kept row is that of its condition
abbrev pub RowsFit : Layout → Contents → (ℕ → Condition) → Type 0
RowsFit l s condition = (f : ℕ) → is_memory l f ≡ true → s.shared.row f ≡ row_in f (condition f)

-- the invariant of runs
pub record Legal (l : Layout) (s : Contents) : Type 0 where
  pub condition : ℕ → Condition
  pub of_layout : IsOfLayout l condition
  pub maps : MapsFit s condition
  pub held : HeldFit l s condition
  pub rows : RowsFit l s condition
  pub trees : AreCoarsest l s
  pub guest_parts : GuestsFit l s
  pub slots : SlotsFit s

-- the requirements on a layout: a memory frame and its page of the hypervisor lie in the trees, a
-- region is that of each of its pages, and the carve-out is memory
pub record IsUsable (l : Layout) : Type 0 where
  pub pages : (f : ℕ) → is_memory l f ≡ true → hyp_page f < pages_below l.depth
  pub regions : (page p : ℕ) (r : Region)
      → region_of l.memory page ≡ Some r
      → is_in_range r.pages p ≡ true
      → region_of l.memory p ≡ Some r
  pub below : (page : ℕ) (r : Region)
      → region_of l.memory page ≡ Some r
      → page < pages_below l.depth
  pub carve : (f : ℕ) → is_in_range l.memory.carve f ≡ true → is_memory l f ≡ true
