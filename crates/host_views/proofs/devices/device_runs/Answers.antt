use Rattle.std.proofs.Common.{ap, sym, subst, ◌∙◌}
use Rattle.page_state.specs.Runs.{map_of}
use Rattle.ghost_trees.specs.Small.{AreSmall}
use Rattle.host_views.proofs.Maps.{device-map, device-small}
use Rattle.host_views.proofs.devices.device_runs.Goals as goal

pub returns-clause-map : goal.returns-clause-map
returns-clause-map c = ap map_of c.in_ok-out.ensures ∙ device-map c.args.runs.now

pub returns-clause-small : goal.returns-clause-small
returns-clause-small c = subst AreSmall (sym c.in_ok-out.ensures) (device-small c.args.runs.now c.requires)
