use Rattle.std.proofs.Common.{◌≡◌, drop}
use Rattle.call_table.specs.Named.{blank}
use Rattle.c_words.specs.Steps.{arguments_from_c}
use Rattle.c_words.proofs.step.arguments_of.Given as goal

abbrev pub invariant-loop-form : goal.invariant-loop-form
invariant-loop-form l =
    record {
      value : arguments_from_c l.forms l.fn.step blank
          ≡ arguments_from_c (drop l.form-index l.forms) l.left l.arguments;
    }
