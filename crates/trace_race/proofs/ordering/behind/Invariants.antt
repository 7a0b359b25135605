use Rattle.std.proofs.Common.{◌≡◌, ◌++◌, ◌+◌, drop, length, map}
use Rattle.std.specs.Prelude.{slice_index}
use Rattle.trace_race.specs.Ordered.{behind}
use Rattle.trace_race.proofs.ordering.behind.Given as goal

abbrev pub invariant-loop-i : goal.invariant-loop-i
invariant-loop-i l = record {
  count : length l.counts.items ≡ length l.fn.counts.items;
  whole : l.cpus.items ++ behind (λ cpu. slice_index l.counts.items cpu) (map (λ c. c.0) (drop l.i l.calls))
      ≡ behind (λ cpu. slice_index l.fn.counts.items cpu) (map (λ c. c.0) l.calls);
}
