use Rattle.std.proofs.Common.{◌≡◌, ◌≤◌, ◌<◌, ℕ, Some, length, slice_get}
use Rattle.part_table.specs.Passes.{first_pass}
use Rattle.trace_race.specs.Made.{AreFirstPasses}
use Rattle.trace_race.proofs.making.all_passes.Given as goal

abbrev pub invariant-loop-cpu : goal.invariant-loop-cpu
invariant-loop-cpu l = record {
  table : l.machine.table ≡ l.fn.machine.table;
  count : length l.machine.passes ≡ l.cpus;
  left : (c : ℕ)
      → l.cpu ≤ c
      → c < l.cpus
      → slice_get l.machine.passes c ≡ Some (Some (first_pass l.fn.machine.table c));
  passes : AreFirstPasses l.fn.machine.table l.cpu l.passes.items;
}
