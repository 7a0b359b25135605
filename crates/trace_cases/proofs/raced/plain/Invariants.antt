use Rattle.std.proofs.Common.{◌≡◌, ◌++◌, drop, length, map}
use Rattle.trace_cases.specs.Races.{plain, plain_from}
use Rattle.trace_cases.proofs.raced.plain.Given as goal

abbrev pub invariant-loop-place : goal.invariant-loop-place
invariant-loop-place l = record {
  plain : map (λ line. line.now) l.plain.items
      ++ plain_from l.steps l.place (map (λ line. line.now) (drop l.place l.lines))
      ≡ plain l.steps (map (λ line. line.now) l.lines);
  count : length l.plain.items ≡ l.place;
}
