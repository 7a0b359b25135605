use Rattle.std.proofs.Common.{rules}
use Rattle.maplets.proofs.TargetRuns.{map_targets}
use Rattle.maplets.proofs.Maplets.at.Goals as goal

pub returns : goal.returns
returns c = search (rules, map_targets)
