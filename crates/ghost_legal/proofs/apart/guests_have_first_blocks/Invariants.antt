use Rattle.std.proofs.Common.{take}
use Rattle.std.specs.Prelude.{All}
use Rattle.ghost_legal.specs.Blocks.{HasFirstBlocks}
use Rattle.ghost_legal.proofs.apart.guests_have_first_blocks.Given as goal

abbrev pub invariant-loop-i : goal.invariant-loop-i
invariant-loop-i l = All (λ x. HasFirstBlocks x.tree.tables.items) (take l.i l.guests)
