use Rattle.std.proofs.Common.{rules}
use Rattle.descriptor.proofs.leaf_word_of.Goals as goal

pub returns : goal.returns
returns c = search rules
