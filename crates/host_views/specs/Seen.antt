-- Maps of a host that has touched all its pages, or whose leaves of devices' pages are all of one
-- kind.
use Rattle.std.specs.Prelude.{ℕ, true, false, List, Some, None}
use Rattle.descriptor.specs.declared.Kind.TheVariants.{Device as device_kind}
use Rattle.page_state.specs.declared.entry.Entry.{Entry}
use Rattle.page_state.specs.declared.entry.Entry.TheVariants.{Unmapped, Leaf}
use Rattle.page_state.specs.declared.entry.PageRange.{PageRange}
use Rattle.page_state.specs.declared.entry.Run.{Run}
use Rattle.page_state.specs.declared.entry.Target.{Target}
use Rattle.page_state.specs.declared.entry.Target.TheVariants.{Leaf as leaf_target}
use Rattle.page_state.specs.declared.layout.Region.{Region}
use Rattle.page_state.specs.declared.layout.RegionKind.{RegionKind}
use Rattle.page_state.specs.EntryTests.{is_unmapped}
use Rattle.page_state.specs.Map.{Map}
use Rattle.page_state.specs.Regions.{find_region, is_in_range, is_memory_kind}
use Rattle.reference_model.specs.model.SharedRules.{abort_leaf}

-- the entries of the first map, and of the second where the first maps nothing
abbrev pub over : Map → Map → Map
over m n p = elim (is_unmapped (m p)) [ true ↦ n p | false ↦ m p ]

-- the entries of a map on the pages of a range
abbrev pub within_range : PageRange → Map → Map
within_range pages m p = elim (is_in_range pages p) [ true ↦ m p | false ↦ Unmapped ]

-- the host's entry of a page of these regions after it has touched it
abbrev pub own_in : List Region → Map
own_in regions p = elim (find_region regions p) [ Some r ↦ abort_leaf r p | None ↦ Unmapped ]

-- a leaf as one of a device
abbrev pub as_device : Entry → Entry
as_device (Leaf frame prot kind state) = Leaf frame prot device_kind state
as_device other = other

-- a run with its leaves as a device's
abbrev pub device_target : Target → Target
device_target (leaf_target frame prot kind state) = leaf_target frame prot device_kind state
device_target other = other

abbrev pub device_run : Run → Run
device_run r = record { pages = r.pages; target = device_target r.target }

-- an entry as one of a region of the kind
abbrev pub of_kind : RegionKind → Entry → Entry
of_kind kind e = elim (is_memory_kind kind) [ true ↦ e | false ↦ as_device e ]

-- an entry of a page as one of the page's region
abbrev pub kind_in : List Region → ℕ → Entry → Entry
kind_in regions p e = elim (find_region regions p) [ Some r ↦ of_kind r.kind e | None ↦ e ]
