-- Parts that have booted: they have an accepted layout and represent the boot state with the empty
-- history.
use Rattle.std.specs.Prelude.{◌≡◌, ℕ, [], Some}
use Rattle.page_state.specs.declared.layout.Config.{Config}
use Rattle.page_state.specs.declared.layout.Geometry.{Geometry}
use Rattle.page_state.specs.Accepted.{IsAcceptedConfig}
use Rattle.page_state.specs.Geometries.{geometry_of, levels_below}
use Rattle.page_state.specs.LayoutFaults.{IsAccepted}
use Rattle.page_state.specs.Layouts.{Layout, HasItsDepth}
use Rattle.page_state.specs.Regions.{Memory}
use Rattle.reference_model.specs.model.Boot.{boot, IsCarveEnough}
use Rattle.hypercalls.specs.declared.parts.Parts.{Parts}
use Rattle.hypercalls.specs.Stands.{parts_layout, kept_of, state_of}

-- an accepted configuration, of trees of this geometry
pub record IsConfig (c : Config) (g : Geometry) : Type 0 where
  pub accepted : IsAcceptedConfig c
  pub geometry : geometry_of c.geometry ≡ Some g

-- the reference layout of memory, a configuration and its geometry
abbrev pub layout_for : Memory → Config → Geometry → Layout
layout_for m c g = record { memory = m; config = c; depth = levels_below g }

-- all logs are empty
pub record HasNoCalls {A : Type 0} (p : Parts A) : Type 0 where
  pub vms : (kept_of p).vms.1 ≡ []
  pub shared : (kept_of p).shared.1 ≡ []
  pub guests : (v : ℕ) → ((kept_of p).guest v).1 ≡ []
  pub cpus : (cpu : ℕ) → ((kept_of p).cpu cpu).1 ≡ []

-- the parts of a world that has booted, if no test failed: they represent the boot state, and all
-- logs are empty
pub record IsBooted {A : Type 0} (m : Memory) (c : Config) (p : Parts A) : Type 0 where
  pub geometry : Geometry
  pub memory : IsAccepted m
  pub accepted : IsConfig c geometry
  pub enough : IsCarveEnough (layout_for m c geometry)
  pub layout : parts_layout p ≡ layout_for m c geometry
  pub depth : HasItsDepth (parts_layout p)
  pub stands : boot (parts_layout p) ≡ state_of p
  pub no_calls : HasNoCalls p
