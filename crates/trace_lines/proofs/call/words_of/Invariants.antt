use Rattle.std.proofs.Common.{◌≡◌, ◌+◌, ◌≤◌, drop}
use Rattle.trace_lines.specs.Calls.{words_from}
use Rattle.trace_lines.proofs.call.words_of.Given as goal

abbrev pub invariant-loop-form : goal.invariant-loop-form
invariant-loop-form l = record {
  value : words_from l.forms l.words 2 ≡ l.count + words_from (drop l.form-index l.forms) l.words l.place;
  few : l.count ≤ l.form-index;
  at : l.place ≡ 2 + l.form-index;
}
