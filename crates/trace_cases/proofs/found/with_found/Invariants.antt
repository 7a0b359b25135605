use Rattle.std.proofs.Common.{◌≡◌, ◌++◌, length, drop}
use Rattle.trace_text.specs.Oracles.{audited_lines}
use Rattle.trace_check.specs.View.{told_in}
use Rattle.trace_cases.specs.Audits.{behind}
use Rattle.trace_cases.proofs.found.with_found.Given as goal

abbrev pub invariant-loop-place : goal.invariant-loop-place
invariant-loop-place l = record {
  told : told_in l.all.items ++ behind l.place l.last (audited_lines l.found) (told_in (drop l.place l.told))
      ≡ behind 0 l.last (audited_lines l.found) (told_in l.told);
  few : length l.all.items ≡ l.place;
}
