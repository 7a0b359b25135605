use Rattle.std.proofs.Common.{take}
use Rattle.std.specs.Fmt.{HasWritten, IsPlainFormatter}
use Rattle.trace_generate.specs.Lines.{text_of_arguments}
use Rattle.trace_generate.proofs.line.CallWordsDisplay.fmt.Given as goal

-- the arguments so far are written
abbrev pub invariant-loop-form : goal.invariant-loop-form
invariant-loop-form g l =
    IsPlainFormatter l.initial.f
    → HasWritten g.W.Write.write_str_gives l.initial.f
    (text_of_arguments (take l.form-index l.form-items) l.named.arguments) l.f
