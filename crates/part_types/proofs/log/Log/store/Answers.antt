use Rattle.std.proofs.Common.{rules}
use Rattle.part_types.proofs.log.Log.store.Goals as goal

pub returns-clause-calls : goal.returns-clause-calls
returns-clause-calls c = search rules

pub returns-clause-room : goal.returns-clause-room
returns-clause-room c = search rules
