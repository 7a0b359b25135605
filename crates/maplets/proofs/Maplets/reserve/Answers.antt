use Rattle.std.proofs.Common.{rules}
use Rattle.maplets.proofs.Maplets.reserve.Goals as goal

pub returns : goal.returns
returns c = search rules
