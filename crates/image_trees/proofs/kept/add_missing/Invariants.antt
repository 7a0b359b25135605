use Rattle.std.proofs.Common.{◌≤◌, All, length, map, take}
use Rattle.std.specs.Option.{ForSome}
use Rattle.memory_image.specs.Pages.{page_words}
use Rattle.image_trees.specs.KeptPages.{kept_told, AreMore, HasWords}
use Rattle.image_trees.proofs.kept.add_missing.Given as goal

abbrev pub invariant-loop-i : goal.invariant-loop-i
invariant-loop-i g l = record {
  whole : All HasWords l.kept.items;
  count : length l.initial.kept.items ≤ length l.kept.items;
  more : ForSome (g.I.ImageBytes.bytes l.image)
      (λ all. AreMore (page_words all l.segments) (take l.i l.runs) (map kept_told l.initial.kept.items)
      (map kept_told l.kept.items));
}
