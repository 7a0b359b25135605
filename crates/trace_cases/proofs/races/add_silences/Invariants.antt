use Rattle.std.proofs.Common.{◌≡◌, ◌+◌, ◌++◌, drop, length, map}
use Rattle.trace_check.specs.View.{told_in}
use Rattle.trace_cases.specs.Races.{silences}
use Rattle.trace_cases.proofs.races.add_silences.Given as goal

abbrev pub invariant-loop-line : goal.invariant-loop-line
invariant-loop-line l = record {
  told : told_in l.told.items ++ silences (map (λ line. line.now) (drop l.line-index l.lines))
      ≡ told_in l.fn.told.items ++ silences (map (λ line. line.now) l.lines);
  count : length l.told.items ≡ length l.fn.told.items + l.line-index;
}
