use Rattle.std.proofs.Common.{◌≡◌, ◌+◌, drop}
use Rattle.call_table.specs.Named.{blank}
use Rattle.trace_lines.specs.Calls.{arguments_from}
use Rattle.trace_lines.proofs.call.arguments_of.Given as goal

abbrev pub invariant-loop-form : goal.invariant-loop-form
invariant-loop-form l = record {
  value : arguments_from l.forms l.words 2 blank
      ≡ arguments_from (drop l.form-index l.forms) l.words l.place l.arguments;
  at : l.place ≡ 2 + l.form-index;
}
