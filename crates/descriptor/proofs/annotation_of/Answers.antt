use Rattle.std.proofs.Common.{rules}
use Rattle.descriptor.proofs.annotation_of.Goals as goal

pub returns-then-owner-ge1 : goal.returns-then-owner-ge1
returns-then-owner-ge1 c = search rules
