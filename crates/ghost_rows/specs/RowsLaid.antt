-- The facts that lists of rows give about frames, one kind per list: annotations, loans or uses.
use Rattle.std.specs.Prelude.{◌≡◌, ℕ, zero, suc, ◌+◌, ◌-◌, ◌<◌, ◌^◌, ◌||◌, Bool, true, false, nat_lt, min, List, [], ◌∷◌, drop, get_or, map, length, slice_index, All, Option, Some, None, option_map, if◌then◌else◌}
use Rattle.std.specs.Option.{option_or}
use Rattle.descriptor.specs.declared.State.{State}
use Rattle.descriptor.specs.declared.State.TheVariants.{SharedBorrowed}
use Rattle.page_state.specs.declared.entry.Entry.{Entry}
use Rattle.page_state.specs.declared.entry.Entry.TheVariants.{Annotated}
use Rattle.page_state.specs.declared.entry.PageRange.{PageRange}
use Rattle.page_state.specs.declared.entry.Run.{Run}
use Rattle.page_state.specs.declared.entry.Target.{Target}
use Rattle.page_state.specs.declared.entry.Target.TheVariants.{Leaf}
use Rattle.page_state.specs.declared.row.Row.{Row}
use Rattle.page_state.specs.declared.row.Usage.{Usage}
use Rattle.page_state.specs.declared.row.Usage.TheVariants.{Plain, SharedPool, VmPool, InHand}
use Rattle.page_state.specs.Entries.{entry_of_target}
use Rattle.page_state.specs.EntryTests.{state_eq}
use Rattle.page_state.specs.Geometries.{pages_below}
use Rattle.page_state.specs.Layouts.{Layout, is_memory}
use Rattle.page_state.specs.Regions.{end_of, is_in_range}
use Rattle.page_state.specs.Rows.{advance_row}
use Rattle.page_state.specs.Runs.{entry_on, run_end}
use Rattle.page_state.specs.Map.{Map, is_within}
use Rattle.page_state.specs.Trees.{Tree, Pool}
use Rattle.reference_model.specs.model.Owner.{page_of, lent_at, is_free, is_table_frame, is_in_hand, row_of}
use Rattle.reference_model.specs.model.State.{Contents, Shared, Guest, Cpu, no_guest, no_cpu}
use Rattle.run_list.specs.declared.run.Run.{Run as RowRun}
use Rattle.run_list.specs.Runs.{run_map}
use Rattle.ghost_spec.specs.declared.cpu.GhostCpu.{GhostCpu}
use Rattle.ghost_spec.specs.declared.parts.GhostGuest.{GhostGuest}
use Rattle.ghost_spec.specs.Found.{run_page}
use Rattle.ghost_trees.specs.KeptTrees.{IsKeptTree}
use Rattle.ghost_spec.specs.States.{guest_in}
use Rattle.ghost_spec.specs.Views.{cpu_in}

-- a list gives these rows to the frames
abbrev pub HasRows : List (RowRun Row) → (ℕ → Option Row) → Type 0
HasRows runs row = (f : ℕ) → run_map advance_row runs f ≡ row f

-- it does of the frames that may be memory
abbrev pub HasLowRows : List (RowRun Row) → (ℕ → Option Row) → Type 0
HasLowRows runs row = (f : ℕ) → f < 2 ^ 26 → run_map advance_row runs f ≡ row f

-- rows are written over those of a list; frames without a new row keep the list's
abbrev pub IsLaidOver : List (RowRun Row) → List (RowRun Row) → (ℕ → Option Row) → Type 0
IsLaidOver old new row = HasRows new (λ f. option_or (row f) (run_map advance_row old f))

-- so it is of the frames that may be memory
abbrev pub IsLaidOverLow : List (RowRun Row) → List (RowRun Row) → (ℕ → Option Row) → Type 0
IsLaidOverLow old new row = HasLowRows new (λ f. option_or (row f) (run_map advance_row old f))

-- the row from scratch of each memory frame; other frames have none
abbrev pub rows_of : Layout → Contents → ℕ → Option Row
rows_of l s f = elim (is_memory l f) [ true ↦ Some (row_of l s f) | false ↦ None ]

-- the first of the `n` options from a number on that has a value
unfoldable pub first_some : {X : Type 0} → ℕ → ℕ → (ℕ → Option X) → Option X
first_some from zero option = None
first_some from (suc n) option = option_or (option from) (first_some (suc from) n option)

-- the guests of a list, and Empty ones past its end
abbrev pub guests_in : List GhostGuest → ℕ → Guest
guests_in gs v = get_or (map guest_in gs) v no_guest

-- the CPUs of a list, and idle ones past its end
abbrev pub cpus_in : List GhostCpu → ℕ → Cpu
cpus_in ks c = get_or (map cpu_in ks) c no_cpu

-- the tree of each guest is kept
abbrev pub HaveKeptTrees : List GhostGuest → Type 0
HaveKeptTrees gs = All (λ g. IsKeptTree g.tree) gs

-- the owner of an annotated page, as a row
abbrev pub annotated_row : Entry → Option Row
annotated_row (Annotated owner) = Some (record { owner = owner; lent = None; usage = Plain })
annotated_row other = None

-- the row of a run's owner, on its pages
abbrev pub annotation_on : Run → ℕ → Option Row
annotation_on r f = if is_in_range r.pages f then annotated_row (entry_on r f) else None

-- the end of the pages of an annotated run; the given page if the run isn't annotated
abbrev pub annotated_end : ℕ → Run → ℕ
annotated_end high r =
    elim (annotated_row (entry_of_target r.target)) [ Some row ↦ run_end r | None ↦ high ]

-- lent to the component of a number at its page, as a row
abbrev pub loan_row : ℕ → ℕ → Row
loan_row number page =
    record { owner = record { 0 = 0 }; lent = Some (lent_at number page); usage = Plain }

-- the same, if there is a page
abbrev pub loan_at : ℕ → Option ℕ → Option Row
loan_at number page = option_map (loan_row number) page

-- a run's part below a limit
abbrev pub run_below : ℕ → Run → Run
run_below limit r =
    record r { pages = record r.pages { count = min r.pages.count (limit - r.pages.first.0) } }

-- the page below a limit that maps the frame in the state, of the first run that has one
abbrev pub low_page : ℕ → State → ℕ → List Run → Option ℕ
low_page limit s f [] = None
low_page limit s f (r ∷ rs) = option_or (run_page f s (run_below limit r)) (low_page limit s f rs)

-- lent to the component of a number, at the input page of a run that maps the frame in the state
abbrev pub run_loan : Layout → ℕ → State → Run → ℕ → Option Row
run_loan l number s r f = loan_at number (run_page f s (run_below (pages_below l.depth) r))

-- lent so at that of the first of runs that has one
abbrev pub runs_loan : Layout → ℕ → State → List Run → ℕ → Option Row
runs_loan l number s rs f = loan_at number (low_page (pages_below l.depth) s f rs)

-- lent so at the first page that maps the frame in the state
abbrev pub map_loan : Layout → ℕ → State → Map → ℕ → Option Row
map_loan l number s m f = loan_at number (page_of l m s f)

-- a target is a leaf in the state
abbrev pub is_leaf_in : State → Target → Bool
is_leaf_in s (Leaf frame prot kind own) = state_eq own s
is_leaf_in s other = false

-- a run maps frames in the state
abbrev pub maps_in : State → Run → Bool
maps_in s r = is_leaf_in s r.target

-- the frames of a range of pages with a target, if that is a leaf in the state
abbrev pub target_frames : State → PageRange → Target → Option PageRange
target_frames s pages (Leaf frame prot kind own) =
    if state_eq own s then Some (record { first = record { 0 = frame.0 }; count = pages.count })
    else None
target_frames s pages other = None

-- the frames of a run, if it is a leaf in the state
abbrev pub run_frames : State → Run → Option PageRange
run_frames s r = target_frames s r.pages r.target

-- the end of frames that begin at a frame or after it, or the frame itself if there are none
abbrev pub next_above : ℕ → Option PageRange → Option ℕ
next_above high None = Some high
next_above high (Some frames) = if nat_lt frames.first.0 high then None else Some (end_of frames)

-- the end of the frames that runs map in the state below a limit, each run's after those of the run
-- before and all from a frame on; None if they don't rise in this way
abbrev pub last_above : ℕ → State → ℕ → List Run → Option ℕ
last_above limit s high [] = Some high
last_above limit s high (r ∷ rs) =
    elim (next_above high (run_frames s (run_below limit r)))
    [ Some end ↦ last_above limit s end rs | None ↦ None ]

-- the loan to a guest, if it maps the frame in the state
abbrev pub guest_loan : Layout → (ℕ → Guest) → State → ℕ → ℕ → Option Row
guest_loan l guest s f v = map_loan l (2 + v) s (guest v).tree.map f

-- lent to the first of the guests that maps the frame in the state
abbrev pub guests_loan : Layout → List GhostGuest → State → ℕ → Option Row
guests_loan l gs s f = first_some 0 (length gs) (guest_loan l (guests_in gs) s f)

-- lent to the first of the host, the hypervisor and the guests that borrows the frame
abbrev pub any_loan : Layout → Map → Map → List GhostGuest → ℕ → Option Row
any_loan l host hyp gs f =
    option_or (map_loan l 0 SharedBorrowed host f)
    (option_or (map_loan l 1 SharedBorrowed hyp f) (guests_loan l gs SharedBorrowed f))

-- a use, as a row
abbrev pub used_row : Usage → Row
used_row u = record { owner = record { 0 = 0 }; lent = None; usage = u }

-- the same, if a test holds
abbrev pub used_if : Bool → Usage → Option Row
used_if test u = if test then Some (used_row u) else None

-- the frames that may be memory and pass a test get a use; the others keep theirs
abbrev pub AreUsed : List (RowRun Row) → List (RowRun Row) → (ℕ → Bool) → Usage → Type 0
AreUsed old new picks u = IsLaidOverLow old new (λ f. used_if (picks f) u)

-- the frames of a list from a place up to another are that of the first place and those right after
-- it
abbrev pub AreTogether : List ℕ → ℕ → ℕ → Type 0
AreTogether frames start end =
    (f : ℕ)
    → is_free (drop start frames) f
    ≡ (is_within (slice_index frames start) (end - start) f || is_free (drop end frames) f)

-- free in a pool, or a table of its tree
abbrev pub is_pool_frame : Layout → Pool → Tree → ℕ → Bool
is_pool_frame l free tree f = is_free free f || is_table_frame l tree f

-- free in the shared pool, or a table of the host's tree or the hypervisor's
abbrev pub is_shared_frame : Layout → Shared → ℕ → Bool
is_shared_frame l s f = is_free s.free f || is_table_frame l s.host f || is_table_frame l s.hyp f

-- free in the guest's pool, or a table of its tree
abbrev pub guest_use : Layout → (ℕ → Guest) → ℕ → ℕ → Option Row
guest_use l guest f v = used_if (is_pool_frame l (guest v).free (guest v).tree f) (VmPool v)

-- in the hand of a CPU
abbrev pub hand_use : (ℕ → Cpu) → ℕ → ℕ → Option Row
hand_use cpu f c = used_if (is_in_hand (cpu c).hand f) (InHand c)

-- in the hand of the first CPU that has the frame
abbrev pub hands_use : List GhostCpu → ℕ → Option Row
hands_use ks f = first_some 0 (length ks) (hand_use (cpus_in ks) f)

-- in the pool of the first guest that has the frame
abbrev pub guests_use : Layout → List GhostGuest → ℕ → Option Row
guests_use l gs f = first_some 0 (length gs) (guest_use l (guests_in gs) f)

-- in the shared pool, in a guest's, or in a hand
abbrev pub any_use : Layout → Shared → List GhostGuest → List GhostCpu → ℕ → Option Row
any_use l s gs ks f =
    option_or (used_if (is_shared_frame l s f) SharedPool)
    (option_or (guests_use l gs f) (hands_use ks f))
