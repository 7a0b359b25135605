use Rattle.std.proofs.Common.{◌≡◌, All, length, map}
use Rattle.std.specs.Option.{ForSome}
use Rattle.memory_image.specs.Pages.{page_words}
use Rattle.image_trees.specs.KeptPages.{kept_told, AreRead, HasWords}
use Rattle.image_trees.proofs.kept.read_root.Given as goal

abbrev pub invariant-loop-k : goal.invariant-loop-k
invariant-loop-k g l = record {
  whole : All HasWords l.kept.items;
  count : length l.kept.items ≡ l.k;
  read : ForSome (g.I.ImageBytes.bytes l.image)
      (λ all. AreRead (page_words all l.segments) l.root l.k (map kept_told l.kept.items));
}
