use Rattle.std.proofs.Common.{drop}
use Rattle.std.specs.Prelude.{◌↔◌}
use Rattle.ghost_legal.specs.Blocks.{HasFirstBlocks}
use Rattle.ghost_legal.proofs.apart.has_first_blocks.Given as goal

abbrev pub invariant-loop-i : goal.invariant-loop-i
invariant-loop-i l = HasFirstBlocks l.tables ↔ HasFirstBlocks (drop l.i l.tables)
