-- A booted world beside the model's boot state (profile).
use Rattle.std.specs.Prelude.{◌≡◌, ⊤, Result, MatchResult}
use Rattle.page_state.specs.declared.layout.Config.{Config}
use Rattle.page_state.specs.LayoutView.{layout_of}
use Rattle.page_state.specs.Regions.{Memory}
use Rattle.ghost_spec.specs.declared.state.Ghost.{Ghost}
use Rattle.ghost_spec.specs.States.{ghost_state}
use Rattle.hypercalls.specs.Booted.{IsBooted}
use Rattle.hypercalls.specs.Stands.{parts_layout}
use Rattle.trace_lines.specs.declared.line.TreeName.TheVariants.{Host, Hyp}
use Rattle.trace_lines.specs.declared.response.Response.{Response}
use Rattle.trace_lines.specs.declared.response.Response.TheVariants as responses
use Rattle.trace_text.specs.declared.session.Stop.{Stop}
use Rattle.trace_text.specs.declared.session.Stop.TheVariants as stops
use Rattle.trace_text.specs.Session.{IsNoWorld}
use Rattle.trace_text.specs.Worlds.{IsBootOf, Machine, shared_free_count, tree_table_count}
use Rattle.trace_race.specs.declared.booting.Booted.{Booted}

-- the model's machine in a state on lists
abbrev pub machine_in : Ghost → Machine
machine_in g = record { layout = layout_of g.layout; state = ghost_state g }

-- what a report says of a boot
abbrev pub boot_response : Machine → Response
boot_response m =
    responses.Boot (tree_table_count m Host) (tree_table_count m Hyp) (shared_free_count m)

-- why there is no world: the layout's fault or the boot's, or memory was refused beside it
abbrev pub StopsBoot : Memory → Config → Stop → Type 0
StopsBoot memory config (stops.Fault fault) = IsNoWorld (stops.Fault fault) memory config
StopsBoot memory config stops.NoMemory = ⊤

-- all of this memory and configuration: the model's machine that boots on them, its boot line, and
-- a world of its layout that has booted on them
pub record IsBootedOf (memory : Memory) (config : Config) (b : Booted) : Type 0 where
  pub booted : IsBootOf memory config (machine_in b.state)
  pub line : b.line ≡ boot_response (machine_in b.state)
  pub layout : parts_layout b.world.parts ≡ layout_of b.state.layout
  pub world : IsBooted memory config b.world.parts

-- what booting on them comes to
abbrev pub BootsTo : Memory → Config → Result Booted Stop → Type 0
BootsTo memory config result =
    MatchResult result (IsBootedOf memory config) (StopsBoot memory config)
