use Rattle.std.proofs.Common.{◌≡◌, ◌+◌, ◌-◌, length}
use Rattle.std.specs.Option.{ForSome}
use Rattle.image_trees.specs.Records.{denied_from, records_in}
use Rattle.image_trees.proofs.records.first_denied.Given as goal

abbrev pub invariant-loop-k : goal.invariant-loop-k
invariant-loop-k g l = record {
  room : length l.buffer ≡ 4096;
  so_far : ForSome (g.I.ImageBytes.bytes l.image)
      (λ all. denied_from (records_in all l.segments l.records) l.tree (l.frame + l.k) (l.count - l.k)
      ≡ denied_from (records_in all l.segments l.records) l.tree l.frame l.count);
}
