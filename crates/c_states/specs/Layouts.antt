-- The reference layout that a plain layout says, and why there is none. Each log has room for one
-- call.
use Rattle.std.specs.Prelude.{◌≡◌, ◌==◌, IsSome, List, None, map, if◌then◌else◌}
use Rattle.page_state.specs.Geometries.{geometry_of}
use Rattle.page_state.specs.LayoutFaults.{IsAccepted, IsFirstFault}
use Rattle.page_state.specs.declared.layout.Region.{Region}
use Rattle.page_state.specs.declared.layout.RegionKind.TheVariants.{Memory, Device}
use Rattle.page_state.specs.Layouts.{Layout}
use Rattle.page_state.specs.Regions.{Memory as MemoryOfRegions, memory_of}
use Rattle.c_states.specs.declared.layout.PlainLayout.{PlainLayout}
use Rattle.c_states.specs.declared.layout.PlainLayoutFault.{PlainLayoutFault}
use Rattle.c_states.specs.declared.layout.PlainLayoutFault.TheVariants.{Geometry, Memory as MemoryFault, NoMemory}
use Rattle.c_states.specs.declared.layout.PlainRegion.{PlainRegion}
use Rattle.c_states.specs.Lists.{range_from_c}

-- a region: 0 is memory, and each other number a device
abbrev pub region_from_c : PlainRegion → Region
region_from_c r =
    record { kind = if r.kind == 0 then Memory else Device; pages = range_from_c r.first r.count }

-- the memory
abbrev pub memory_from_c : PlainLayout → List PlainRegion → MemoryOfRegions
memory_from_c l regions =
    memory_of (map region_from_c regions) (range_from_c l.carve_first l.carve_count)

-- the layout
abbrev pub layout_from_c : PlainLayout → List PlainRegion → Layout
layout_from_c l regions = record {
  memory = memory_from_c l regions;
  config = record { cpus = l.cpus; log = 1; geometry = l.address_bits };
  depth = if l.address_bits == 48 then 3 else 2;
}

-- the numbers are a layout
pub record IsTakenLayout (l : PlainLayout) (regions : List PlainRegion) : Type 0 where
  pub geometry : IsSome (geometry_of l.address_bits)
  pub memory : IsAccepted (memory_from_c l regions)

-- why they are none: the first that is true
abbrev pub IsLayoutFault : PlainLayout → List PlainRegion → PlainLayoutFault → Type 0
IsLayoutFault l regions Geometry = geometry_of l.address_bits ≡ None
IsLayoutFault l regions (MemoryFault fault) =
    IsSome (geometry_of l.address_bits) × IsFirstFault fault (memory_from_c l regions)
IsLayoutFault l regions NoMemory = Unit {0}
