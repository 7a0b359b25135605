-- Which layouts are accepted (profile): the memory, the configuration and the depth.
use Rattle.std.specs.Prelude.{◌≤◌, IsSome}
use Rattle.page_state.specs.declared.layout.Config.{Config}
use Rattle.page_state.specs.Geometries.{geometry_of}
use Rattle.page_state.specs.LayoutFaults.{IsAccepted}
use Rattle.page_state.specs.Layouts.{Layout, HasItsDepth}

-- an accepted configuration: 1 to 64 CPUs, logs of 1 to 1,048,576 calls, and a width of input
-- addresses whose geometry is known
pub record IsAcceptedConfig (c : Config) : Type 0 where
  pub some_cpus : 1 ≤ c.cpus
  pub cpus : c.cpus ≤ 64
  pub some_calls : 1 ≤ c.log
  pub calls : c.log ≤ 1048576
  pub known : IsSome (geometry_of c.geometry)

-- an accepted layout: its memory and its configuration are accepted, and its depth is that of the
-- configuration's geometry
pub record IsAcceptedLayout (l : Layout) : Type 0 where
  pub memory : IsAccepted l.memory
  pub config : IsAcceptedConfig l.config
  pub depth : HasItsDepth l
