use Rattle.std.proofs.Common.{rules}
use Rattle.ghost_spec.proofs.rows.find_rows.Goals as goal

pub returns-in-Some-clause-found : goal.returns-in-Some-clause-found
returns-in-Some-clause-found c = search rules
