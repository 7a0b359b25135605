use Rattle.c_tables.proofs.WalkedSlots.{IsWalked}
use Rattle.c_tables.proofs.walk.+walk_table.Given as goal

abbrev pub decreases-walk_table : goal.decreases-walk_table
decreases-walk_table l = l.depth

abbrev pub invariant-loop-i : goal.invariant-loop-i
invariant-loop-i l =
    IsWalked l.pages l.tree l.depth l.number l.page l.fn.met.items l.fn.runs.items l.i l.met.items l.runs.items
