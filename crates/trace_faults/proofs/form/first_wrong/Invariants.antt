use Rattle.std.proofs.Common.{◌≡◌, drop}
use Rattle.trace_faults.specs.Forms.{all_forms, first_wrong}
use Rattle.trace_faults.proofs.form.first_wrong.Given as goal

abbrev pub invariant-loop-place : goal.invariant-loop-place
invariant-loop-place l =
    first_wrong l.words (all_forms l.forms) 0 ≡ first_wrong l.words (drop l.place (all_forms l.forms)) l.place
