use Rattle.std.proofs.Common.{arith}
use Rattle.std.proofs.lemmas.Grind.{common_steps}
use Rattle.table_tree.proofs.poke.poke_slot.Goals as goal

pub returns-then-word_in_slot-word-clause-other : goal.returns-then-word_in_slot-word-clause-other
returns-then-word_in_slot-word-clause-other g c = grind (arith, common_steps)
