-- Booting: when a boot fails, and what the parts of a booted world are made of.
use Rattle.std.specs.Prelude.{◌≡◌, ℕ, ◌+◌, drop}
use Rattle.descriptor.specs.declared.Prot.TheVariants.{RW}
use Rattle.descriptor.specs.declared.State.TheVariants.{Owned}
use Rattle.page_state.specs.declared.entry.PageRange.{PageRange}
use Rattle.page_state.specs.declared.layout.Config.{Config}
use Rattle.page_state.specs.declared.layout.Geometry.{Geometry}
use Rattle.reference_model.specs.model.Boot.{IsCarveEnough}
use Rattle.page_state.specs.Accepted.{IsAcceptedConfig}
use Rattle.page_state.specs.EntryTests.{leaf}
use Rattle.page_state.specs.Geometries.{levels_below}
use Rattle.page_state.specs.Layouts.{hyp_page}
use Rattle.page_state.specs.Regions.{Memory}
use Rattle.page_state.specs.Trees.{frames_from, root_tree}
use Rattle.hyp_pool.specs.declared.PoolFault.{PoolFault}
use Rattle.hyp_pool.specs.declared.PoolFault.TheVariants as pools
use Rattle.world.specs.declared.boot.BootFault.{BootFault}
use Rattle.world.specs.declared.boot.BootFault.TheVariants.{Config as config_fault, CarveSmall, NoMemory}
use Rattle.reference_model.specs.declared.changes.MapChange.{MapChange}
use Rattle.reference_model.specs.model.State.{Shared, no_cpu, no_guest, plain_row}
use Rattle.guest_component.specs.View.{guest_depth}
use Rattle.part_types.specs.declared.parts.CpuState.{CpuState}
use Rattle.part_types.specs.declared.parts.GuestPart.{GuestPart}
use Rattle.part_types.specs.Logs.{IsNewLog}
use Rattle.part_types.specs.View.{cpu_of, guest_held}
use Rattle.hypercalls.specs.Booted.{IsConfig, layout_for}

-- the number of a fault in a report (profile)
abbrev pub boot_number : BootFault → ℕ
boot_number config_fault = 1
boot_number CarveSmall = 2
boot_number NoMemory = 3

-- the fault of a boot whose pool answers this
abbrev pub fault_of_pool : PoolFault → BootFault
fault_of_pool pools.NoPool = CarveSmall
fault_of_pool pools.NoMemory = NoMemory

-- the Shared part of two roots alone, which take the lowest two frames of the carve-out
abbrev pub new_shared_of : Memory → Geometry → Shared
new_shared_of m g = record {
  host = root_tree (levels_below g) m.carve.first.0;
  hyp = root_tree (levels_below g) (m.carve.first.0 + 1);
  free = drop 2 (frames_from m.carve.first.0 m.carve.count);
  row = λ f. plain_row;
}

-- the change of the hypervisor's map: its pages of the carve-out become RW Normal Owned
abbrev pub hyp_change : PageRange → MapChange
hyp_change carve =
    record {
      range = record { first = record { 0 = hyp_page carve.first.0 }; count = carve.count };
      entry = leaf RW carve.first.0 Owned;
    }

-- why a world doesn't boot: the first test that fails, or, if none does, refused memory
abbrev pub IsNoBoot : BootFault → Memory → Config → Type 0
IsNoBoot config_fault m c = IsAcceptedConfig c → ⊥
IsNoBoot CarveSmall m c = (g : Geometry) × IsConfig c g × (IsCarveEnough (layout_for m c g) → ⊥)
IsNoBoot NoMemory m c = (g : Geometry) × IsConfig c g × IsCarveEnough (layout_for m c g)

-- a CPU that does nothing, with an empty log of `calls` calls
pub record IsIdle (calls : ℕ) (k : CpuState) : Type 0 where
  pub idle : cpu_of k ≡ no_cpu
  pub log : IsNewLog calls k.log

-- a Guest part whose guest is Empty, in trees of the geometry, with an empty log of `calls` calls
pub record IsVacant {A : Type 0} (g : Geometry) (calls : ℕ) (p : GuestPart A) : Type 0 where
  pub empty : guest_held p ≡ no_guest
  pub depth : guest_depth p.guest ≡ levels_below g
  pub log : IsNewLog calls p.log
