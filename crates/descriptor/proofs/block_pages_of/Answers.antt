use Rattle.std.proofs.Common.{rules}
use Rattle.descriptor.proofs.block_pages_of.Goals as goal

pub returns-in-One-clause-value : goal.returns-in-One-clause-value
returns-in-One-clause-value c = search rules
