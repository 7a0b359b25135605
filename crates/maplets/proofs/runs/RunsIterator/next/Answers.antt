use Rattle.std.proofs.Common.{rules}
use Rattle.maplets.proofs.runs.RunsIterator.next.Goals as goal

pub returns : goal.returns
returns c = search rules
