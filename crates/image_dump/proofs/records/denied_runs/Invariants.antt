use Rattle.std.proofs.Common.{◌≡◌, length, take}
use Rattle.std.specs.List.{filter_map}
use Rattle.std.specs.Option.{ForSome}
use Rattle.image_trees.specs.Records.{records_in}
use Rattle.image_dump.specs.Stating.{denial_by}
use Rattle.image_dump.proofs.records.denied_runs.Given as goal

abbrev pub invariant-loop-i : goal.invariant-loop-i
invariant-loop-i g l = record {
  room : length l.bytes ≡ 4096;
  so_far : ForSome (g.I.ImageBytes.bytes l.image)
      (λ all. l.found.items ≡ filter_map (denial_by (records_in all l.segments l.records) l.tree) (take l.i l.runs));
}
