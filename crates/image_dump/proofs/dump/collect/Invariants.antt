use Rattle.std.proofs.Common.{◌≤◌, take}
use Rattle.image_dump.specs.Dumped.{AreCollected}
use Rattle.image_dump.proofs.dump.collect.Given as goal

abbrev pub invariant-loop-i : goal.invariant-loop-i
invariant-loop-i g l = record {
  all_so_far : AreCollected (g.I.ImageBytes.bytes l.image) (g.I.ImageBytes.may_fail l.image) l.segments l.records
      (take l.i l.roots) l.skips l.initial.all l.all l.unwalked;
  few : l.unwalked ≤ l.i;
}
