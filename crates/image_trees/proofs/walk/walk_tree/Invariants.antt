use Rattle.std.proofs.Common.{◌≡◌, ◌≤◌, ◌-◌, All, length, map, vec_len}
use Rattle.std.specs.Option.{ForSome}
use Rattle.memory_image.specs.Pages.{page_words}
use Rattle.image_trees.specs.KeptPages.{kept_told, AreRead, HasWords}
use Rattle.image_trees.proofs.walk.walk_tree.Given as goal

abbrev pub invariant-loop-bytes : goal.invariant-loop-bytes
invariant-loop-bytes g l = record {
  room : length l.bytes ≡ 4096;
  whole : All HasWords l.kept.items;
  long : l.root.count ≤ length l.kept.items;
  read : ForSome (g.I.ImageBytes.bytes l.image)
      (λ all. AreRead (page_words all l.segments) l.root l.root.count (map kept_told l.kept.items));
}

abbrev pub decreases-loop-bytes : goal.decreases-loop-bytes
decreases-loop-bytes g l = 1048576 - vec_len l.kept
