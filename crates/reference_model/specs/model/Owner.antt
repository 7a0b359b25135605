-- Owner from scratch: the row of a frame, found only from the maps, the pools, the tables and the
-- hands.
use Rattle.std.specs.Prelude.{ℕ, zero, suc, ◌+◌, ◌-◌, Bool, true, false, ◌||◌, ◌==◌, nat_lt, is_some, Option, Some, None, [], ◌∷◌}
use Rattle.descriptor.specs.declared.State.{State}
use Rattle.descriptor.specs.declared.State.TheVariants.{SharedOwned, SharedBorrowed}
use Rattle.page_state.specs.declared.entry.Entry.{Entry}
use Rattle.page_state.specs.declared.entry.Entry.TheVariants.{Annotated}
use Rattle.page_state.specs.declared.entry.PageRange.{PageRange}
use Rattle.page_state.specs.declared.row.Lent.{Lent}
use Rattle.page_state.specs.declared.row.Row.{Row}
use Rattle.page_state.specs.declared.row.Usage.{Usage}
use Rattle.page_state.specs.declared.row.Usage.TheVariants.{Plain, SharedPool, VmPool, InHand}
use Rattle.page_state.specs.Map.{Map}
use Rattle.page_state.specs.Regions.{is_in_range}
use Rattle.page_state.specs.EntryTests.{maps_frame}
use Rattle.page_state.specs.Search.{first_below, count_below}
use Rattle.page_state.specs.Trees.{Block, Tree, Pool}
use Rattle.reference_model.specs.model.State.{Contents}
use Rattle.page_state.specs.Layouts.{Layout}
use Rattle.page_state.specs.Geometries.{block_pages, pages_below}

-- how many blocks of depths 1 to `d` pass the test, in a tree whose root is at depth `top`
abbrev pub count_blocks : ℕ → ℕ → (Block → Bool) → ℕ
count_blocks top zero test = 0
count_blocks top (suc d) test =
    count_below (block_pages (top - suc d)) (λ i. test (suc d, i)) + count_blocks top d test

-- whether a frame, if there is one, is this one
abbrev pub is_frame : ℕ → Option ℕ → Bool
is_frame f None = false
is_frame f (Some g) = g == f

-- the frame of a table of the tree, the root's among them
abbrev pub is_table_frame : Layout → Tree → ℕ → Bool
is_table_frame l t f =
    nat_lt 0 (count_blocks (l.depth + 1) (l.depth + 1) (λ b. is_frame f (t.table b)))

-- a free frame of the pool
abbrev pub is_free : Pool → ℕ → Bool
is_free [] f = false
is_free (g ∷ gs) f = g == f || is_free gs f

-- a frame of the hand
abbrev pub is_in_hand : Option PageRange → ℕ → Bool
is_in_hand None f = false
is_in_hand (Some r) f = is_in_range r f

-- the first page that maps the frame in the state
abbrev pub page_of : Layout → Map → State → ℕ → Option ℕ
page_of l m state f = first_below (pages_below l.depth) (λ page. maps_frame f state (m page))

-- lent to the component of a number, at its page
abbrev pub lent_at : ℕ → ℕ → Lent
lent_at owner page = record { owner = record { 0 = owner }; page = page }

module _ (l : Layout) (s : Contents) (f : ℕ) where
  -- the first guest that maps the frame in the state
  abbrev pub guest_with : State → Option ℕ
  guest_with state = first_below 64 (λ v. is_some (page_of l (s.guest v).tree.map state f))

  -- the host maps the frame SharedBorrowed, at some page
  abbrev pub is_lent_to_host : Bool
  is_lent_to_host = is_some (page_of l s.shared.host.map SharedBorrowed f)

  -- the owner of a frame that the host borrows: the first guest that shares it, else the host
  abbrev pub sharer : ℕ
  sharer = elim (guest_with SharedOwned) [ Some v ↦ 2 + v | None ↦ 0 ]

  -- the owner by the host's entry of the frame's page: the number of its annotation, the sharer of
  -- a frame that the host borrows, and else the host
  abbrev pub owner_by : Entry → ℕ
  owner_by (Annotated owner) = owner.0
  owner_by other = elim is_lent_to_host [ true ↦ sharer | false ↦ 0 ]

  -- the loan to the first guest and page that map the frame SharedBorrowed, or none
  abbrev pub lent_to_guest : Option Lent
  lent_to_guest = elim (guest_with SharedBorrowed) [
    | Some v ↦ elim (page_of l (s.guest v).tree.map SharedBorrowed f)
        [ Some page ↦ Some (lent_at (2 + v) page) | None ↦ None ]
    | None ↦ None
  ]

  -- lent to the first component and page that map the frame SharedBorrowed: the host, the
  -- hypervisor, the guests by slot
  abbrev pub lent_to : Option Lent
  lent_to = elim (page_of l s.shared.host.map SharedBorrowed f) [
    | Some page ↦ Some (lent_at 0 page)
    | None ↦ elim (page_of l s.shared.hyp.map SharedBorrowed f)
        [ Some page ↦ Some (lent_at 1 page) | None ↦ lent_to_guest ]
  ]

  -- free in the shared pool, or a table of the host's or the hypervisor's tree
  abbrev pub is_in_shared_pool : Bool
  is_in_shared_pool =
      is_free s.shared.free f || is_table_frame l s.shared.host f || is_table_frame l s.shared.hyp f

  -- the first guest in whose pool the frame is free, or of whose tree it is a table
  abbrev pub vm_pool_of : Option ℕ
  vm_pool_of =
      first_below 64 (λ v. is_free (s.guest v).free f || is_table_frame l (s.guest v).tree f)

  -- the first CPU in whose hand the frame lies
  abbrev pub holding_cpu : Option ℕ
  holding_cpu = first_below l.config.cpus (λ c. is_in_hand (s.cpu c).hand f)

  -- the use of the frame
  abbrev pub usage_of : Usage
  usage_of = elim is_in_shared_pool [
    | true ↦ SharedPool
    | false ↦ elim vm_pool_of
        [ Some v ↦ VmPool v | None ↦ elim holding_cpu [ Some c ↦ InHand c | None ↦ Plain ] ]
  ]

  -- the owner row of the frame, from scratch
  unfoldable pub row_of : Row
  row_of =
      record {
        owner = record { 0 = owner_by (s.shared.host.map f) };
        lent = lent_to;
        usage = usage_of;
      }
