use Rattle.std.proofs.Common.{◌-◌, drop, length}
use Rattle.page_state.specs.Rows.{advance_row, HasPageBelow}
use Rattle.ghost_judge.specs.inner.Same.{marked}
use Rattle.ghost_judge.proofs.Apart.{IsLeft}
use Rattle.ghost_judge.proofs.rows.first_row_apart.Given as goal

abbrev pub invariant-loop-k : goal.invariant-loop-k
invariant-loop-k l =
    IsLeft advance_row HasPageBelow (marked l.a) (marked l.b) (marked (drop l.i l.a)) (marked (drop l.j l.b))

abbrev pub decreases-loop-k : goal.decreases-loop-k
decreases-loop-k l = length l.a - l.i
