use Rattle.std.proofs.Common.{◌≡◌, All, Ok}
use Rattle.std.specs.Option.{ForSome}
use Rattle.memory_image.specs.CoreFile.{IsPlaced, segments_of}
use Rattle.memory_image.proofs.core_file.read_segments.Given as goal

abbrev pub invariant-loop-i : goal.invariant-loop-i
invariant-loop-i g l = record {
  said : ForSome (g.I.ImageBytes.bytes l.image) (λ all. segments_of l.count all l.table l.i ≡ Ok l.found.items);
  placed : All IsPlaced l.found.items;
}
