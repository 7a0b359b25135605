use Rattle.std.proofs.Common.{rules}
use Rattle.decisions.proofs.calls.abort.abort_depth.Goals as goal

pub returns-then-may_map-2-clause-value : goal.returns-then-may_map-2-clause-value
returns-then-may_map-2-clause-value g c = search rules
