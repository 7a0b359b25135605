use Rattle.std.proofs.Common.{arith}
use Rattle.std.proofs.lemmas.Grind.{common_steps}
use Rattle.page_state.proofs.text.EntryDisplay.fmt.Goals as goal

pub returns-in-Leaf-clause-writes : goal.returns-in-Leaf-clause-writes
returns-in-Leaf-clause-writes g c = grind (arith, common_steps)
