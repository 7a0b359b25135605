use Rattle.std.proofs.Common.{◌≡◌, ◌+◌, ◌<◌, length, take, get_or}
use Rattle.std.specs.Option.{ForSome}
use Rattle.run_list.specs.Runs.{run_map, EndBefore}
use Rattle.run_list.specs.declared.run.Run.{Run}
use Rattle.walked_tables.specs.declared.said.Said.{Said}
use Rattle.run_list.specs.View.{IsKept}
use Rattle.walked_tables.specs.Values.{advance_said, CanGoOn}
use Rattle.image_trees.specs.Records.{records_in, stated_map}
use Rattle.image_trees.proofs.records.with_states.Given as goal

abbrev pub invariant-loop-i : goal.invariant-loop-i
invariant-loop-i g l = record {
  room : length l.bytes ≡ 4096;
  map : ForSome (g.I.ImageBytes.bytes l.image)
      (λ all. run_map advance_said l.out.items
      ≡ stated_map (records_in all l.segments l.records) l.tree (run_map advance_said (take l.i l.runs)));
  kept : IsKept advance_said CanGoOn l.out.items;
  behind : (d : Run Said) → l.i < length l.runs → EndBefore ((get_or l.runs l.i d).pages.first.0 + 1) l.out.items;
}
