use Rattle.std.proofs.Common.{◌≡◌, ◌++◌, drop}
use Rattle.trace_explain.specs.Looks.{look_lines}
use Rattle.trace_explain.specs.View.{looks_in}
use Rattle.trace_text.specs.View.{machine_of}
use Rattle.trace_explain.proofs.explaining.add_looks.Given as goal

abbrev pub invariant-loop-look : goal.invariant-loop-look
invariant-loop-look g l =
    l.text.items ++ look_lines (machine_of l.world) l.cpu (looks_in (drop l.look-index l.looks))
    ≡ l.fn.text.items ++ look_lines (machine_of l.world) l.cpu (looks_in l.looks)
