use Rattle.std.proofs.Common.{◌≡◌, ◌+◌, ◌++◌, drop, length, map}
use Rattle.trace_check.specs.View.{told_in}
use Rattle.trace_cases.specs.Races.{faulted}
use Rattle.trace_cases.proofs.races.faulted.Given as goal

abbrev pub invariant-loop-place : goal.invariant-loop-place
invariant-loop-place l = record {
  told : told_in l.told.items ++ faulted (l.place + 1) l.at l.fault (map (λ line. line.now) (drop l.place l.lines))
      ≡ faulted 1 l.at l.fault (map (λ line. line.now) l.lines);
  count : length l.told.items ≡ l.place;
}
