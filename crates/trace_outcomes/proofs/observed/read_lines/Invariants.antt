use Rattle.std.proofs.Common.{◌≡◌, ◌+◌, drop, length, map}
use Rattle.trace_outcomes.specs.Races.{texts_in}
use Rattle.trace_outcomes.specs.Reports.{told_in}
use Rattle.trace_outcomes.proofs.observed.read_lines.Given as goal

abbrev pub invariant-loop-place : goal.invariant-loop-place
invariant-loop-place l = record {
  count : length l.texts.items ≡ length l.steps;
  told : told_in l.name l.steps (l.place + 1) (texts_in l.texts.items) (map (λ line. line.now) (drop l.place l.lines))
      ≡ told_in l.name l.steps 1 (texts_in l.fn.texts.items) (map (λ line. line.now) l.lines);
}
