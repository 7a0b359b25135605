use Rattle.std.proofs.Common.{◌≡◌, ◌+◌, ◌≤◌, length}
use Rattle.std.specs.Option.{ForSome}
use Rattle.run_list.specs.Runs.{run_map, EndBefore}
use Rattle.run_list.specs.View.{IsKept}
use Rattle.walked_tables.specs.Values.{advance_said, CanGoOn}
use Rattle.image_trees.specs.Records.{records_in, stated_laid}
use Rattle.image_trees.proofs.records.add_run.Given as goal

abbrev pub invariant-loop-k : goal.invariant-loop-k
invariant-loop-k g l = record {
  room : length l.buffer ≡ 4096;
  map : ForSome (g.I.ImageBytes.bytes l.image)
      (λ all. run_map advance_said l.out.items
      ≡ stated_laid (records_in all l.segments l.records) l.tree l.run l.k
      (run_map advance_said l.initial.out.items));
  kept : IsKept advance_said CanGoOn l.out.items;
  behind : EndBefore (l.run.pages.first.0 + l.k + 1) l.out.items;
}
