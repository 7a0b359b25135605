use Rattle.std.proofs.Common.{◌≤◌, take}
use Rattle.ghost_legal.specs.Frames.{held_frames}
use Rattle.ghost_legal.specs.Ranges.{AreInOrder}
use Rattle.ghost_legal.proofs.held.first_twice.Given as goal

abbrev pub invariant-loop-i : goal.invariant-loop-i
invariant-loop-i l = record {
  some : 1 ≤ l.i;
  order : AreInOrder held_frames (take l.i l.held);
}
