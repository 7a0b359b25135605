use Rattle.std.proofs.Common.{◌≡◌, ◌+◌, ◌-◌, ◌++◌, take, drop, vec_len}
use Rattle.std.specs.Vec.{vec_capacity}
use Rattle.run_list.proofs.places.take_out.Given as goal

abbrev pub invariant-loop-i : goal.invariant-loop-i
invariant-loop-i g l = record {
  moved : l.end + l.to ≡ l.at + l.i;
  front : take l.end l.runs.items ≡ take l.at l.fn.runs.items ++ take (l.i - l.to) (drop l.to l.fn.runs.items);
  back : drop l.i l.runs.items ≡ drop l.i l.fn.runs.items;
  len : vec_len l.runs ≡ vec_len l.fn.runs;
  capacity : vec_capacity l.runs ≡ vec_capacity l.fn.runs;
}
