use Rattle.std.proofs.Common.{take}
use Rattle.std.specs.Prelude.{All}
use Rattle.ghost_coarse.specs.Misfits.{AreInside}
use Rattle.ghost_legal.proofs.trees.first_guest_table.Given as goal

abbrev pub invariant-loop-slot : goal.invariant-loop-slot
invariant-loop-slot l = All (λ x. AreInside l.depth x.tree.tables.items) (take l.slot l.state.guests.items)
