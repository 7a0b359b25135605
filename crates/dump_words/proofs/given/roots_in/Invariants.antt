use Rattle.std.proofs.Common.{◌≡◌, All}
use Rattle.image_dump.specs.Dumped.{IsRoot}
use Rattle.dump_words.proofs.InTurn.{roots_to}
use Rattle.dump_words.proofs.given.roots_in.Given as goal

abbrev pub invariant-loop-i : goal.invariant-loop-i
invariant-loop-i l = record {
  so_far : l.roots.items ≡ roots_to l.profiles l.fn.host l.fn.hyp l.guests l.i;
  roots : All IsRoot l.roots.items;
}
